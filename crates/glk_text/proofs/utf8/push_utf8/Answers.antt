use Rattle.std.proofs.Common.{ℕ, List, ◌++◌, ap, ◌∙◌}
use Rattle.std.proofs.lemmas.Result.{on_ok_weaker}
use Rattle.std.specs.Char.{encode_utf8}
use Rattle.glk_text.proofs.Reading.{read_back}
use Rattle.glk_text.proofs.utf8.push_utf8.Goals as goal

pub returns-clause-read_back : goal.returns-clause-read_back
returns-clause-read_back c =
    on_ok_weaker c.extend_from_slice.result
    (λ added. read_back c.args.out.now c.extend_from_slice.new.self c.args.v
    (added ∙ ap (λ (bytes : List ℕ). c.args.out.now ++ bytes)
    (c.as_bytes.ensures.value ∙ c.encode_utf8.ensures.value ∙ ap encode_utf8 c.as_char.ensures)))
    c.extend_from_slice.ensures.ok
