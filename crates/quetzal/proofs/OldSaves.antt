-- A save that is a copy under a ceiling is the same copy under each higher one: the ceiling is looked at once, by the
-- size of memory.
use Rattle.std.proofs.Common.{◌≡◌, ◌≤◌, ℕ, Bool, true, false, Result, Ok, Err, refl, arith}
use Rattle.std.proofs.lemmas.Bool.{le-leb, leb-true, and_parts}
use Rattle.gx_words.specs.Results.{◌>>=◌}
use Rattle.gx_story.specs.Stories.{FlatStory}
use Rattle.gx_state.specs.Copies.{Copy}
use Rattle.quetzal.specs.declared.faults.SaveFault.{SaveFault}
use Rattle.quetzal.specs.declared.faults.SaveFault.TheVariants as fault
use Rattle.quetzal.specs.Faults.{allowed}
use Rattle.quetzal.specs.Chunks.{Parts, parts_in}
use Rattle.quetzal.specs.Memory.{is_memory_size, size_in, memory_of}
use Rattle.quetzal.specs.Stacks.{is_stack}
use Rattle.quetzal.specs.Blocks.{heap_of}
use Rattle.quetzal.specs.ReadingSaves.{copy_in_save}
use Rattle.quetzal.specs.Laws.{OldSavesLoad}
use Rattle.quetzal.proofs.Sorting.{both}

-- a size under a ceiling is one under a higher one
size_higher : (old new : ℕ) (story : FlatStory) (size : ℕ) → old ≤ new → is_memory_size old story size ≡ true
    → is_memory_size new story size ≡ true
size_higher old new story size le h =
    let a = and_parts _ _ h in
    both _ _ a.0 (le-leb size new (omega (arith, le, leb-true size old a.1)))

-- a test that is passed may be replaced by another that is
passed : {A : Type 0} (first then : Bool) (e : SaveFault) (rest : Result A SaveFault) (x : A)
    → (first ≡ true → then ≡ true) → (allowed first e >>= λ _. rest) ≡ Ok x → (allowed then e >>= λ _. rest) ≡ Ok x
passed true then e rest x so h = rw (so refl) h
passed false then e rest x so h = absurd cc

-- what comes behind the parts
abbrev behind_parts : ℕ → FlatStory → Parts → Result Copy SaveFault
behind_parts ceiling story parts = do
  _ ← allowed (is_memory_size ceiling story (size_in parts.memory)) fault.Size
  memory ← memory_of story parts.memory
  _ ← allowed (is_stack story (size_in parts.memory) parts.stack) fault.Stack
  heap ← heap_of story (size_in parts.memory) parts.heap
  Ok (record { memory = memory; stack = parts.stack; heap = heap })

higher : (old new : ℕ) (story : FlatStory) (r : Result Parts SaveFault) (copy : Copy) → old ≤ new
    → (r >>= behind_parts old story) ≡ Ok copy → (r >>= behind_parts new story) ≡ Ok copy
higher old new story (Ok parts) copy le h =
    passed (is_memory_size old story (size_in parts.memory)) (is_memory_size new story (size_in parts.memory))
    fault.Size _ copy (size_higher old new story (size_in parts.memory) le) h
higher old new story (Err e) copy le h = absurd cc

pub old_saves_load : OldSavesLoad
unfolding copy_in_save
old_saves_load old new save story copy le h = higher old new story (parts_in save story) copy le h
