-- a line is read after another, and a fault is the line's own
use Rattle.std.proofs.Common.{◌≡◌, ◌+◌, ◌++◌, [], List, ℕ, Err, refl, sym, ap, ◌∙◌, arith}
use Rattle.gx_asm.specs.declared.faults.AsmFault.{AsmFault}
use Rattle.gx_asm.specs.Instructions.{bytes_of}
use Rattle.gx_asm.specs.Views.{seen_instruction}
use Rattle.gx_asm.proofs.TextLaws.{assembled_spells, spelled_assembles, none_done, line_done, line_refused}
use Rattle.gx_asm.proofs.TextLaws.{lines_done, no_want, text_cut}
use Rattle.gx_asm.proofs.texts.assemble.Goals as goal

pub returns-then-lacks_line_feed-clause-value : goal.returns-then-lacks_line_feed-clause-value
returns-then-lacks_line_feed-clause-value c =
    (λ _. text_cut c.args.text.now (sym c.lacks_line_feed.ensures ∙ c.if-lacks_line_feed.true), λ same. absurd cc)

pub returns-then-lacks_line_feed-clause-spelled : goal.returns-then-lacks_line_feed-clause-spelled
returns-then-lacks_line_feed-clause-spelled c =
    λ code. (assembled_spells c.args.text.now code, spelled_assembles c.args.text.now code)

pub loop-line-init : goal.loop-line-init
loop-line-init c = record {
  said = (
    [],
    none_done c.args.text.now (sym c.lacks_line_feed.ensures ∙ c.if-lacks_line_feed.false),
    λ _. c.new-code.ensures,
  );
  few = omega arith;
  some = λ h. absurd cc;
}

pub returns-in-Err-clause-value : goal.returns-in-Err-clause-value
returns-in-Err-clause-value c = (
  λ _. line_refused c.args.text.now c.loop-line.rest.now c.in-Some.line.now c.in-Some.after.now
      c.loop-line.invariant.said.0 (c.loop-line.number + 1) c.in-Err.fault c.in-Some.ensures.found
      c.in-Err.ensures.value c.loop-line.invariant.said.1 ∙ ap (λ (e : AsmFault). Err e) (sym c.in_line.ensures),
  λ same. absurd (no_want _ _ (sym c.in_line.ensures ∙ same)),
)

pub returns-in-Err-clause-spelled : goal.returns-in-Err-clause-spelled
returns-in-Err-clause-spelled c = λ code.
    (assembled_spells c.args.text.now code, spelled_assembles c.args.text.now code)

pub loop-line-preserved : goal.loop-line-preserved
loop-line-preserved c = record {
  said = (
    c.loop-line.invariant.said.0 ++ bytes_of (seen_instruction c.in-Ok.instruction),
    line_done c.args.text.now c.loop-line.rest.now c.in-Some.line.now c.in-Some.after.now c.loop-line.invariant.said.0
        (c.loop-line.number + 1) (seen_instruction c.in-Ok.instruction) c.in-Some.ensures.found c.in-Ok.ensures.value
        c.loop-line.invariant.said.1,
    λ h. let added = c.add_bytes-whole.ensures h in
        added.1 ∙ ap (λ (bs : List ℕ). bs ++ bytes_of (seen_instruction c.in-Ok.instruction))
        (c.loop-line.invariant.said.2 added.0),
  );
  few = omega (arith, c.loop-line.invariant.few, c.in-Some.ensures.shorter);
  some = λ _. omega (arith, c.loop-line.invariant.few, c.in-Some.ensures.shorter);
}

pub returns-then-whole-clause-value : goal.returns-then-whole-clause-value
returns-then-whole-clause-value c =
    lines_done c.args.text.now c.loop-line.rest.now c.loop-line.invariant.said.0
    (c.loop-line.number + 1) c.in_default.ensures.missing c.loop-line.invariant.said.1
    ∙ ap (λ (bs : List ℕ). Rattle.std.proofs.Common.Ok bs) (sym (c.loop-line.invariant.said.2 c.if-whole.true))

pub returns-then-whole-clause-spelled : goal.returns-then-whole-clause-spelled
returns-then-whole-clause-spelled c = λ code.
    (assembled_spells c.args.text.now code, spelled_assembles c.args.text.now code)

pub returns-else-whole-clause-value : goal.returns-else-whole-clause-value
returns-else-whole-clause-value c =
    let done = lines_done c.args.text.now c.loop-line.rest.now c.loop-line.invariant.said.0
    (c.loop-line.number + 1) c.in_default.ensures.missing c.loop-line.invariant.said.1 in
    (λ other. absurd (other refl), λ _. rw done refl)

pub returns-else-whole-clause-spelled : goal.returns-else-whole-clause-spelled
returns-else-whole-clause-spelled c = λ code.
    (assembled_spells c.args.text.now code, spelled_assembles c.args.text.now code)
