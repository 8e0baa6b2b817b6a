use Rattle.std.proofs.Common.{◌≡◌, ◌≤◌, true, length, rules, sym, arith}
use Rattle.glk_streams.specs.declared.kinds.FileForm.TheVariants as forms
use Rattle.glk_streams.specs.declared.kinds.StreamKind.TheVariants as kinds
use Rattle.glk_streams.specs.Constants.{largest}
use Rattle.glk_streams.specs.Stream.{writable}
use Rattle.glk_streams.proofs.Filling.{latin_puts}
use Rattle.glk_streams.proofs.one.put_bytes.Goals as goal

pub returns-in_ok-splice-in-File-default-default-Latin-clause-put :
    goal.returns-in_ok-splice-in-File-default-default-Latin-clause-put
returns-in_ok-splice-in-File-default-default-Latin-clause-put c = λ _.
    let file = c.in-File-default-default-Latin in
    let s = c.args.stream.now in
    let put = c.in_ok-splice-in-File-default-default-Latin.ensures.ok in
    let kind : s.kind ≡ kinds.File file.name file.content forms.Latin = cc in
    let on : writable s ≡ true = search rules in
    let there : s.position ≤ length file.content = rw kind at c.requires.position in
    let whole : length file.content ≤ largest = rw kind at c.requires.kind in
    rw (put, file.form-is)
    (sym (latin_puts s file.name file.content c.args.bytes.now kind on (λ k less. omega (arith, c.type_inv.bytes k))
    (omega arith) there (omega arith)))
