-- The lines of the calls' answers.
use Rattle.std.specs.Prelude.{ℕ, List, ◌++◌, Option, Some, Result, Ok, Err, codes, decimal}
use Rattle.tagged.specs.declared.file.Refusal.{Refusal}
use Rattle.files.specs.Refused.{refused_text}

-- the answer's own text, or the refusal's
abbrev pub answered_text : {T : Type 0} → (T → Option (List ℕ)) → Result T Refusal → Option (List ℕ)
answered_text text (Ok answer) = text answer
answered_text text (Err r) = Some (refused_text r)

-- `LENGTH n`
abbrev pub length_text : ℕ → List ℕ
length_text n = codes "LENGTH " ++ decimal n
