use Rattle.std.proofs.Common.{◌≡◌, ◌∙◌, ap}
use Rattle.gx_story.specs.Stories.{accepted}
use Rattle.gx_asm.specs.Stories.{wrapped_code}
use Rattle.gx_asm.proofs.Wrapped.{accepts, checked, checksum_within, listed_back, wrapped_made}
use Rattle.gx_asm.proofs.stories.wrap_code.Goals as goal

pub returns-in_err-story-clause-checked : goal.returns-in_err-story-clause-checked
returns-in_err-story-clause-checked c = checked c.args.code.now

pub returns-in_err-story-clause-listed : goal.returns-in_err-story-clause-listed
returns-in_err-story-clause-listed c = listed_back c.args.code.now

pub returns-in_err-splice-clause-checked : goal.returns-in_err-splice-clause-checked
returns-in_err-splice-clause-checked c = checked c.args.code.now

pub returns-in_err-splice-clause-listed : goal.returns-in_err-splice-clause-listed
returns-in_err-splice-clause-listed c = listed_back c.args.code.now

made : (c : goal.In_ok-splice) → c.splice.new.self ≡ wrapped_code c.args.code.now
made c =
    wrapped_made c.args.code.now c.in_ok-story.story _ c.splice.new.self c.sum_of_words-checksum.result
    c.in_ok-story.ensures
    (rw c.as_slice.ensures at c.sum_of_words-checksum.ensures) c.word_bytes.ensures.bytes c.in_ok-splice.ensures.ok

pub splice-requires : goal.splice-requires
splice-requires c = checksum_within c.args.code.now _ c.in_ok-story.ensures

pub returns-clause-value : goal.returns-clause-value
returns-clause-value c = made c

pub returns-clause-accepted : goal.returns-clause-accepted
returns-clause-accepted c = ap accepted (made c) ∙ accepts c.args.code.now c.requires

pub returns-clause-checked : goal.returns-clause-checked
returns-clause-checked c = checked c.args.code.now

pub returns-clause-listed : goal.returns-clause-listed
returns-clause-listed c = listed_back c.args.code.now
