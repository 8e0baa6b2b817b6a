use Rattle.std.proofs.Common.{◌∷◌, [], subst, sym, ap, ◌∙◌}
use Rattle.glk_world.specs.World.{FlatWorld}
use Rattle.glk_world.specs.Each.{ShowsEach}
use Rattle.glk_world.proofs.world.World.put_text.Goals as goal

pub returns-clause-current : goal.returns-clause-current
returns-clause-current c = λ put.
    ap (λ (w : FlatWorld). w.scene.current) c.in_ok-put_found.ensures.ok
    ∙ (c.in-Some.ensures.shows c.in-Some.ensures.value.0 (c.args.c ∷ [])).0.current

pub returns-clause-shows : goal.returns-clause-shows
returns-clause-shows c = λ put chars.
    subst (λ (w : FlatWorld). ShowsEach w c.args.stream chars) (sym c.in_ok-put_found.ensures.ok)
    (c.in-Some.ensures.shows c.in-Some.ensures.value.0 (c.args.c ∷ chars)).1
