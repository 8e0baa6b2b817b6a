use Rattle.gx_asm.specs.Stories.{listed_story}
use Rattle.gx_session.proofs.Calling.{called-none, called-as}
use Rattle.gx_play.proofs.Told.{listing-refused, listing-sent}
use Rattle.gx_play.proofs.listing.send_listing.Goals as goal

pub returns-in-Err-clause-tells : goal.returns-in-Err-clause-tells
returns-in-Err-clause-tells g c =
    called-none g.K.Sink.called c.args.output.now _
    (listing-refused c.without_listing.result (listed_story c.args.story.now) (g.K.Sink.seen c.args.output.now)
    c.in-Err.fault c.in-Err.ensures.value.0 c.in-Err.ensures.value.1 c.without_listing.ensures.memory
    c.without_listing.ensures.fault)

pub returns-in-Ok-clause-tells : goal.returns-in-Ok-clause-tells
returns-in-Ok-clause-tells g c =
    called-as g.K.Sink.called c.args.output.now c.send_output.new.output _ _ c.send_output.ensures.sends
    (λ sends told.
    listing-sent c.send_output.result (listed_story c.args.story.now) (g.K.Sink.seen c.args.output.now)
    (g.K.Sink.seen c.send_output.new.output) sends c.in-Ok.text c.in-Ok.ensures.value
    (rw c.as_slice.ensures at told))
