-- What the faults of a form are as those of a story file.
use Rattle.std.proofs.Common.{◌≡◌, ◌≢◌, refl}
use Rattle.iff_chunks.specs.declared.faults.IffFault.{IffFault}
use Rattle.iff_chunks.specs.declared.faults.IffFault.TheVariants as iff
use Rattle.gx_story.specs.declared.faults.StoryFault.TheVariants as fault
use Rattle.gx_story.specs.Faults.{fault_of}

-- all but want of memory is the Blorb's
pub blorb_fault : (e : IffFault) → e ≢ iff.NoMemory → fault_of e ≡ fault.Blorb
blorb_fault iff.Cut h = refl
blorb_fault iff.NotForm h = refl
blorb_fault iff.WrongKind h = refl
blorb_fault iff.NoMemory h = absurd (h refl)

pub ruleset form_faults = (blorb_fault)
