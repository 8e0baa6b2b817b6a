use Rattle.std.proofs.Common.{◌∙◌}
use Rattle.glk_windows.specs.Windows.{tree_of}
use Rattle.glk_windows.specs.Changes.{leaving}
use Rattle.glk_windows.proofs.Lists.{ids_rise}
use Rattle.glk_windows.proofs.Leaving.{chosen_forgotten, left_forgotten}
use Rattle.glk_windows.proofs.closing.remove_entries.Goals as goal

pub returns-clause-gone : goal.returns-clause-gone
returns-clause-gone c = let ids = leaving (tree_of c.args.tree.now) c.args.win in
    c.list_ids.ensures.value
    ∙ rw (c.deref-3.ensures.value, c.forget.ensures.value)
    (chosen_forgotten c.deref-2.result.now ids c.args.entries.now.items)

pub returns-clause-rises : goal.returns-clause-rises
returns-clause-rises c = ids_rise (leaving (tree_of c.args.tree.now) c.args.win) _ c.args.entries.now.items
    (returns-clause-gone c) c.requires.rises

pub returns-clause-new : goal.returns-clause-new
returns-clause-new c = let ids = leaving (tree_of c.args.tree.now) c.args.win in
    c.keep_entries.ensures.value
    ∙ rw (
      c.forget.ensures.value,
      c.deref-2.ensures.value,
      c.list_streams.ensures.value,
      c.deref.ensures.value,
    )
    (left_forgotten _ ids c.args.entries.now.items)
