-- The file stands and its values pass, so the judgement decides (request_judged).
use Rattle.std.proofs.Common.{rules, sym, ◌∙◌, ◌≡◌, Ok}
use Rattle.tagged.specs.File.{file_answer}
use Rattle.request.specs.RequestRows.{request_rows}
use Rattle.request.proofs.Theorems.Request.{request_judged}
use Rattle.request.proofs.values.read_request.Goals as goal

pub returns : goal.returns
returns c =
    let stands : file_answer request_rows c.args.number c.args.file.now ≡ Ok tt = sym c.request_stands.ensures ∙ c.in_ok-request_stands.was in
    let passes : c.judge_request-judged.result ≡ Ok tt = search rules in
    rw (c.request_values.ensures, c.fields_part-fields.ensures.0)
    (sym (request_judged c.args.number c.args.file.now (Ok tt) stands (rw (← c.fields_part-fields.ensures.0, ← c.judge_request-judged.ensures) passes)))
