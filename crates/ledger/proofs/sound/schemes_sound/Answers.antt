-- This turn's scheme and tally are those at the loop's place (zip_turn).
use Rattle.std.proofs.Common.{◌≡◌, ◌<◌, ap₂, get_or, sym, ◌∙◌, arith, length, min}
use Rattle.std.proofs.lemmas.List.{length_push}
use Rattle.std.proofs.lemmas.Slice.Zip.{zip_turn, zip_end}
use Rattle.ledger.specs.Records.{no_scheme}
use Rattle.ledger.specs.Tallied.{no_tally}
use Rattle.ledger.specs.Sound.{accounts_sound}
use Rattle.ledger.proofs.Rest.{schemes_stop, schemes_go_on, schemes_end}
use Rattle.ledger.proofs.sound.schemes_sound.Goals as goal
use Rattle.ledger.proofs.sound.schemes_sound.Goals.{After-scheme_sound}

told : (c : After-scheme_sound) → (length c.loop-scheme.yielded < length c.args.schemes.now)
    × (c.scheme_sound.result ≡ accounts_sound c.args.month (get_or c.args.schemes.now (length c.loop-scheme.yielded) no_scheme) (get_or c.args.tallies.now (length c.loop-scheme.yielded) no_tally))
told c =
    let turn = zip_turn c.args.schemes.now c.args.tallies.now c.loop-scheme.yielded c.into_iter-scheme-iterator.result c.loop-scheme.scheme-iterator c.next.new.self _ (cc) (cc) c.loop-scheme.yielded_by _ c.in-Some.is c.next.ensures.steps in
    (turn.0, c.scheme_sound.ensures ∙ ap₂ (accounts_sound c.args.month) (turn.2 no_scheme) (turn.3 no_tally))

pub returns-then-not-scheme_sound : goal.returns-then-not-scheme_sound
returns-then-not-scheme_sound c parties t =
    let here = told (goal.at.returns-then-not-scheme_sound c).After-scheme_sound in
    sym (c.loop-scheme.invariant.undecided parties t ∙ schemes_stop c.args.month c.args.tallies.now parties c.args.schemes.now _ t c.requires.placed here.0 here.1 c.if-not-scheme_sound.true)

pub loop-scheme-preserved : goal.loop-scheme-preserved
loop-scheme-preserved c =
    let here = told (goal.at.loop-scheme-preserved c).After-scheme_sound in
    record {
      undecided =
          λ parties t.
          rw length_push
          (c.loop-scheme.invariant.undecided parties t
          ∙ schemes_go_on c.args.month c.args.tallies.now parties c.args.schemes.now _ t c.requires.placed here.0 here.1 c.if-not-scheme_sound.false);
    }

pub returns : goal.returns
returns c parties t =
    let all : length c.loop-scheme.yielded ≡ min (length c.args.schemes.now) (length c.args.tallies.now) =
    zip_end c.args.schemes.now c.args.tallies.now c.loop-scheme.yielded c.into_iter-scheme-iterator.result c.loop-scheme.scheme-iterator c.next.new.self _ (cc) (cc) c.loop-scheme.yielded_by c.in-None.is c.next.ensures.steps in
    sym (c.loop-scheme.invariant.undecided parties t ∙ schemes_end c.args.month parties c.args.schemes.now _ (omega arith))
