-- A refused show leaves the output as it was.
use Rattle.std.specs.Prelude.{ℕ, ◌≡◌, List, ◌++◌, Bool, true, false, cond, length, drop, ltb, refl, Ok, Err}
use Rattle.tagged.specs.File.{FileAnswer, refusal}
use Rattle.tagged.specs.Refusals.{output_too_short}
use Rattle.tagged.specs.declared.file.Refusal.{Refusal}
use Rattle.tagged.proofs.Theorems.Impossible.{impossible}
use Rattle.text_shown.specs.Show.{TextWritten, longest_text, shown_by, output_by, show_written, show_output}

refused_by : (answer : FileAnswer) (text out : List ℕ) (r : Refusal) → shown_by answer text out ≡ Err r → output_by answer text out ≡ out
refused_by (Err q) text out r e = refl
refused_by (Ok done) text out r e = by (ltb (length out) longest_text) e
  where
    by : (t : Bool) → ◌≡◌ {A = TextWritten} (cond t (Err (refusal output_too_short 0 0)) (Ok (length text))) (Err r) → cond t out (text ++ drop (length text) out) ≡ out
    by true f = refl
    by false f = impossible cc

pub refused_show_changes_nothing : (file out : List ℕ) (r : Refusal) → show_written file out ≡ Err r → show_output file out ≡ out
unfolding show_written show_output
refused_show_changes_nothing file out r e = refused_by _ _ out r e
