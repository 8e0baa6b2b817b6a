use Rattle.std.proofs.Common.{rules}
use Rattle.std.proofs.lemmas.Fn.{filter_same}
use Rattle.glk_screen.specs.Texts.{screen_gone}
use Rattle.glk_screen.proofs.texts.Screen.gone.Goals as goal

pub returns : goal.returns
unfolding screen_gone
returns c = rw (← c.self.view_is) (filter_same _ _ _ (λ x b f' k. search rules) _ _ c.retain.ensures.filtered)
