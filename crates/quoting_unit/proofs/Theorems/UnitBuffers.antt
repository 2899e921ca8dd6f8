-- What a call leaves by the test of its lent buffers: where the answer or the figures are too short for their places, and where they aren't.
use Rattle.std.specs.Prelude.{◌<◌, ◌≤◌, ◌≡◌, refl, Bool, true, false, cond, length}
use Rattle.std.proofs.Common.{ap, ◌∙◌, lt-ltb, le-ltb}
use Rattle.tagged.specs.Refusals.{output_too_short}
use Rattle.quoting_unit.specs.Interface.{answer_places, figure_places, Lent, answer_short, figures_short}
use Rattle.quoting_unit.specs.Unit.{UnitCall, CallLeaves, too_short, made, leaves_by, unit_call}

abbrev pub leaves_if : UnitCall → Lent → Bool → CallLeaves
leaves_if call lent short = cond short (record { result = output_too_short; lent = lent }) (leaves_by (made call lent) lent)

module _ (call : UnitCall) (lent : Lent) where
  -- price is lent figures
  module _ (test : too_short call lent ≡ figures_short lent) where
    pub figures_short_lem : length lent.figures < figure_places → unit_call call lent ≡ record { result = output_too_short; lent = lent }
    figures_short_lem short = ap (leaves_if call lent) (test ∙ lt-ltb (length lent.figures) figure_places short)

    pub figures_long : figure_places ≤ length lent.figures → unit_call call lent ≡ leaves_by (made call lent) lent
    figures_long long = ap (leaves_if call lent) (test ∙ le-ltb (length lent.figures) figure_places long)

  -- most are lent an answer
  module _ (test : too_short call lent ≡ answer_short lent) where
    pub answer_short_lem : length lent.answer < answer_places → unit_call call lent ≡ record { result = output_too_short; lent = lent }
    answer_short_lem short = ap (leaves_if call lent) (test ∙ lt-ltb (length lent.answer) answer_places short)

    pub answer_long : answer_places ≤ length lent.answer → unit_call call lent ≡ leaves_by (made call lent) lent
    answer_long long = ap (leaves_if call lent) (test ∙ le-ltb (length lent.answer) answer_places long)

  -- accept is lent both
  module _ (test : too_short call lent ≡ cond (answer_short lent) true (figures_short lent)) where
    pub first_short : length lent.answer < answer_places → unit_call call lent ≡ record { result = output_too_short; lent = lent }
    first_short short =
        let either : cond (answer_short lent) true (figures_short lent) ≡ true = rw (lt-ltb (length lent.answer) answer_places short) in
        ap (leaves_if call lent) (test ∙ either)

    pub second_short : length lent.figures < figure_places → unit_call call lent ≡ record { result = output_too_short; lent = lent }
    second_short short =
        let either : cond (answer_short lent) true (figures_short lent) ≡ true = rw (lt-ltb (length lent.figures) figure_places short) (by (answer_short lent)) in
        ap (leaves_if call lent) (test ∙ either)
      where
        by : (first : Bool) → cond first true true ≡ true
        by true = refl
        by false = refl

    pub both_long : answer_places ≤ length lent.answer → figure_places ≤ length lent.figures → unit_call call lent ≡ leaves_by (made call lent) lent
    both_long long longer =
        let neither : cond (answer_short lent) true (figures_short lent) ≡ false =
        rw (le-ltb (length lent.answer) answer_places long, le-ltb (length lent.figures) figure_places longer) in
        ap (leaves_if call lent) (test ∙ neither)
