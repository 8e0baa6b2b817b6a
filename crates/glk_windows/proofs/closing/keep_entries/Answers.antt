use Rattle.std.proofs.Common.{rules}
use Rattle.std.proofs.lemmas.Fn.{filter_same}
use Rattle.glk_objects.proofs.Rising.{rises_filter}
use Rattle.glk_windows.proofs.closing.keep_entries.Goals as goal

pub returns-clause-value : goal.returns-clause-value
returns-clause-value c = filter_same _ _ _ (λ x b f' k. search rules) _ _ c.retain.ensures.filtered

pub returns-clause-rises : goal.returns-clause-rises
returns-clause-rises c = rw (returns-clause-value c) (rises_filter _ _ _ c.requires)
