-- What is shown of bytes that are no file, and of outputs about the longest text, in literals.
use Rattle.std.specs.Prelude.{◌≡◌, ◌++◌, refl, codes, replicate, take, [], ◌∷◌, Ok, Err}
use Rattle.tagged.specs.File.{refusal}
use Rattle.text_names.specs.declared.table.Kind.TheVariants.{Book, Request}
use Rattle.rate_book.specs.Book.{book_of}
use Rattle.request.specs.Request.{request_of}
use Rattle.text_shown.specs.Show.{text_written, text_output, kind_reached, kind_shown, show_written, show_output}

-- no byte, one, and the letters of either kind with nothing behind them
pub refused_shown :
    (show_written [] (7 ∷ []) ≡ Err (refusal 1 1 0))
    × (show_output [] (7 ∷ []) ≡ 7 ∷ [])
    × (show_written (1 ∷ []) [] ≡ Err (refusal 1 1 0))
    × (show_written (1 ∷ 0 ∷ 4 ∷ codes "RATE") [] ≡ Err (refusal 1 1 0))
    × (show_written (1 ∷ 0 ∷ 4 ∷ codes "CONN") [] ≡ Err (refusal 1 2 0))
unfolding kind_shown show_written show_output book_of request_of
refused_shown = (refl, refl, refl, refl, refl)

-- a request's refusal against a book's: at the same place, before it and after it; of its values, and of the book's
pub kinds_reached :
    (kind_reached (Err (refusal 1 1 7)) (Err (refusal 1 2 7)) ≡ Book)
    × (kind_reached (Err (refusal 1 1 7)) (Err (refusal 1 2 6)) ≡ Book)
    × (kind_reached (Err (refusal 1 1 7)) (Err (refusal 1 2 8)) ≡ Request)
    × (kind_reached (Err (refusal 2 1 9)) (Err (refusal 3 2 3)) ≡ Request)
    × (kind_reached (Err (refusal 3 1 3)) (Err (refusal 1 2 9)) ≡ Book)
    × (kind_reached (Err (refusal 3 1 3)) (Err (refusal 3 2 3)) ≡ Book)
    × (kind_reached (Ok tt) (Err (refusal 3 2 3)) ≡ Book)
    × (kind_reached (Err (refusal 3 1 3)) (Ok tt) ≡ Request)
kinds_reached = (refl, refl, refl, refl, refl, refl, refl, refl)

-- an output as long as the longest text, and one byte shorter
pub outputs_about_longest :
    (text_written (codes "ab") (replicate 9216 7) ≡ Ok 2)
    × (take 3 (text_output (codes "ab") (replicate 9216 7)) ≡ codes "ab" ++ (7 ∷ []))
    × (text_written (codes "ab") (replicate 9215 7) ≡ Err (refusal 14 0 0))
    × (take 3 (text_output (codes "ab") (replicate 9215 7)) ≡ 7 ∷ 7 ∷ 7 ∷ [])
outputs_about_longest = (refl, refl, refl, refl)
