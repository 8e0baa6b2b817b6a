-- The file that a load answers for.
use Rattle.std.proofs.Common.{◌≡◌, ◌≢◌, ℕ, ◌+◌, ◌<◌, ◌≤◌, nat_lt, if◌then◌else◌, Bool, true, false, List, [], ◌∷◌}
use Rattle.std.proofs.Common.{length, replicate, Option, Some, None, Result, Ok, Err, refl, ap, subst, sym, ◌∙◌}
use Rattle.std.proofs.Common.{arith}
use Rattle.std.proofs.lemmas.Bool.{lt-ltb, le-ltb, ltb-true, ltb-false}
use Rattle.std.proofs.lemmas.List.{length-replicate}
use Rattle.gx_words.specs.Constants.{ceiling}
use Rattle.gx_outside.specs.Outside.{FlatShelf, IsBounded}
use Rattle.gx_outside.specs.Shelves.{load_file, loaded, load_of, AnswerMayWant, ShelfCall}
use Rattle.gx_outside.specs.declared.devices.Load.{Load}
use Rattle.gx_outside.specs.declared.devices.Load.TheVariants.{Missing, TooLong, Found}
use Rattle.gx_outside.specs.declared.devices.ShelfFault.{ShelfFault}
use Rattle.gx_outside.specs.declared.devices.ShelfFault.TheVariants as of_shelf
use Rattle.gx_story.specs.declared.faults.StoryFault.{StoryFault}
use Rattle.gx_story.specs.declared.faults.StoryFault.TheVariants as of_story
use Rattle.gx_story.specs.Faults.{number_of}
use Rattle.gx_story.specs.Stories.{FlatStory, accepted}
use Rattle.gx_play.specs.declared.loading.Refusal.{Refusal}
use Rattle.gx_play.specs.declared.loading.Refusal.TheVariants as refusal
use Rattle.gx_play.specs.Constants.{no_file, most_text}
use Rattle.gx_play.proofs.Outcomes.{text_in_file, story_in_file, story_or_number}
use Rattle.gx_play.specs.Loading.{refusal_of_shelf, refusal_of_story, IsLoadable, LoadGives, LoadsFile}

-- some bytes that are more than the most
some-longer : (most : ℕ) → (bytes : List ℕ) × (most < length bytes)
some-longer most =
    let zeros : List ℕ = replicate (most + 1) 0 in
    let size : length zeros ≡ most + 1 = length-replicate (most + 1) 0 in
    (zeros, subst (λ (n : ℕ). most < n) (sym size) (omega arith))

longer-story : (bytes : List ℕ) → ceiling < length bytes
    → story_in_file (Some bytes) ≡ Err (number_of of_story.TooLarge)
longer-story bytes more =
    ap (λ (b : Bool). if b then Err (number_of of_story.TooLarge) else story_or_number (accepted bytes))
    (lt-ltb ceiling (length bytes) more)

shorter-story : (bytes : List ℕ) → length bytes ≤ ceiling
    → story_in_file (Some bytes) ≡ story_or_number (accepted bytes)
shorter-story bytes fits =
    ap (λ (b : Bool). if b then Err (number_of of_story.TooLarge) else story_or_number (accepted bytes))
    (le-ltb ceiling (length bytes) fits)

longer-text : (bytes : List ℕ) → most_text < length bytes
    → text_in_file (Some bytes) ≡ Err (number_of of_story.TooLarge)
longer-text bytes more =
    ap (λ (b : Bool). let r : Result (List ℕ) ℕ = if b then Err (number_of of_story.TooLarge) else Ok bytes in r)
    (lt-ltb most_text (length bytes) more)

shorter-text : (bytes : List ℕ) → length bytes ≤ most_text → text_in_file (Some bytes) ≡ Ok bytes
shorter-text bytes fits =
    ap (λ (b : Bool). let r : Result (List ℕ) ℕ = if b then Err (number_of of_story.TooLarge) else Ok bytes in r)
    (le-ltb most_text (length bytes) fits)

-- WHAT IS HANDED OUT of a file
-- by its size
sized : (most : ℕ) (bytes : List ℕ) (b : Bool) → nat_lt most (length bytes) ≡ b
    → load_of most (Some bytes) ≡ (if b then TooLong else Found bytes)
sized most bytes b is = ap (λ (x : Bool). if x then TooLong else Found bytes) is

missing-by : (most : ℕ) (bytes : List ℕ) (b : Bool) → loaded Missing ≡ loaded (if b then TooLong else Found bytes) → ⊥
missing-by most bytes true is = cc
missing-by most bytes false is = cc

missing-is : (most : ℕ) (file : Option (List ℕ)) → loaded Missing ≡ loaded (load_of most file) → file ≡ None
missing-is most None is = refl
missing-is most (Some bytes) is = absurd (missing-by most bytes (nat_lt most (length bytes)) is)

long-by : (most : ℕ) (bytes : List ℕ) (b : Bool) → nat_lt most (length bytes) ≡ b
    → loaded TooLong ≡ loaded (if b then TooLong else Found bytes) → most < length bytes
long-by most bytes true e is = ltb-true most (length bytes) e
long-by most bytes false e is = absurd cc

long-is : (most : ℕ) (file : Option (List ℕ)) → loaded TooLong ≡ loaded (load_of most file)
    → (bytes : List ℕ) × (file ≡ Some bytes) × (most < length bytes)
long-is most None is = absurd cc
long-is most (Some bytes) is = (bytes, refl, long-by most bytes (nat_lt most (length bytes)) refl is)

found-by : (most : ℕ) (bytes there : List ℕ) (b : Bool)
    → loaded (Found bytes) ≡ loaded (if b then TooLong else Found there) → there ≡ bytes
found-by most bytes there true is = absurd cc
found-by most bytes there false is = cc

found-is : (most : ℕ) (bytes : List ℕ) (file : Option (List ℕ)) → loaded (Found bytes) ≡ loaded (load_of most file)
    → file ≡ Some bytes
found-is most bytes None is = absurd cc
found-is most bytes (Some there) is = ap (λ (x : List ℕ). Some x)
    (found-by most bytes there (nat_lt most (length there)) is)

wants-by : (most : ℕ) (name bytes : List ℕ) (b : Bool) → nat_lt most (length bytes) ≡ b
    → AnswerMayWant (load_file name most) (loaded (if b then TooLong else Found bytes)) → length bytes ≤ most
wants-by most name bytes true e may = absurd may
wants-by most name bytes false e may = may

wants-file : (most : ℕ) (name : List ℕ) (file : Option (List ℕ))
    → AnswerMayWant (load_file name most) (loaded (load_of most file)) → IsLoadable most file
wants-file most name None may = absurd may
wants-file most name (Some bytes) may = wants-by most name bytes (nat_lt most (length bytes)) refl may

module _ (most : ℕ) (name : List ℕ) (before now : FlatShelf) where
  -- some file of which this is handed out: the shelf's, where it tells
  record Handed (load : Load) : Type 0 where
    file : Option (List ℕ)
    file_is : before.tells ≡ true → file ≡ before.files name
    handed : loaded load ≡ loaded (load_of most file)

  some-handed : (load : Load) → IsBounded most load
      → (file : Option (List ℕ)) × (loaded load ≡ loaded (load_of most file))
  some-handed Missing fits = (None, refl)
  some-handed TooLong fits =
      let longer = some-longer most in (
        Some longer.0,
        ap (λ (x : Load). loaded x)
            (sym (sized most longer.0 true (lt-ltb most (length longer.0) longer.1))),
      )
  some-handed (Found bytes) fits = (
    Some bytes,
    ap (λ (x : Load). loaded x) (sym (sized most bytes false (le-ltb most (length bytes) fits))),
  )

  handed-by : (load : Load) (b : Bool) → before.tells ≡ b
      → ShelfCall before (load_file name most, Ok (loaded load)) now → Handed load
  handed-by load true tells does = record {
    file = before.files name;
    file_is = λ _. refl;
    handed = (does.files tells).0;
  }
  handed-by load false tells does =
      let some = some-handed load does.answer in
      record { file = some.0; file_is = λ e. absurd cc; handed = some.1 }

  module _ {X : Type 0} (defined : Option (List ℕ) → Result X ℕ) where
    -- what the file is then
    pub loads-load : (load : Load) (result : Result X Refusal)
        → ShelfCall before (load_file name most, Ok (loaded load)) now
        → ((file : Option (List ℕ)) → loaded load ≡ loaded (load_of most file) → LoadGives most defined file result)
        → LoadsFile most defined before now name ((load_file name most, Ok (loaded load)) ∷ []) result
    loads-load load result does gives =
        let h = handed-by load before.tells refl does in
        record {
          answer = Ok (loaded load);
          asked_are = refl;
          does = does;
          file = h.file;
          file_is = h.file_is;
          handed = h.handed;
          gives = gives h.file h.handed;
        }

    -- the shelf refused
    refused-by : (f : ShelfFault) (b : Bool) → before.tells ≡ b → ShelfCall before (load_file name most, Err f) now
        → LoadsFile most defined before now name ((load_file name most, Err f) ∷ []) (Err (refusal_of_shelf f))
    refused-by of_shelf.Failed b tells does =
        record {
          answer = Err of_shelf.Failed;
          asked_are = refl;
          does = does;
          file = before.files name;
          file_is = λ _. refl;
          handed = tt;
          gives = tt;
        }
    refused-by of_shelf.NoMemory true tells does = record {
      answer = Err of_shelf.NoMemory;
      asked_are = refl;
      does = does;
      file = before.files name;
      file_is = λ _. refl;
      handed = tt;
      gives = wants-file most name (before.files name) (does.files tells).1;
    }
    refused-by of_shelf.NoMemory false tells does =
        record {
          answer = Err of_shelf.NoMemory;
          asked_are = refl;
          does = does;
          file = Some [];
          file_is = λ e. absurd cc;
          handed = tt;
          gives = omega arith;
        }

    pub loads-refused : (f : ShelfFault) → ShelfCall before (load_file name most, Err f) now
        → LoadsFile most defined before now name ((load_file name most, Err f) ∷ []) (Err (refusal_of_shelf f))
    loads-refused f does = refused-by f before.tells refl does

    -- there is no file
    pub loads-missing : defined None ≡ Err no_file → ShelfCall before (load_file name most, Ok (loaded Missing)) now
        → LoadsFile most defined before now name ((load_file name most, Ok (loaded Missing)) ∷ [])
        (Err (refusal.BadStory no_file))
    loads-missing is does = loads-load Missing (Err (refusal.BadStory no_file)) does
        (λ file handed. ap defined (missing-is most file handed) ∙ is)

module _ (name : List ℕ) (before now : FlatShelf) where
  -- the story's file is too long
  pub loads-long-story : ShelfCall before (load_file name ceiling, Ok (loaded TooLong)) now
      → LoadsFile ceiling story_in_file before now name ((load_file name ceiling, Ok (loaded TooLong)) ∷ [])
      (Err (refusal.BadStory (number_of of_story.TooLarge)))
  loads-long-story does =
      loads-load ceiling name before now story_in_file TooLong
      (Err (refusal.BadStory (number_of of_story.TooLarge))) does
      (λ file handed. let long = long-is ceiling file handed in ap story_in_file long.1 ∙ longer-story long.0 long.2)

  -- so is the text's
  pub loads-long-text : ShelfCall before (load_file name most_text, Ok (loaded TooLong)) now
      → LoadsFile most_text text_in_file before now name ((load_file name most_text, Ok (loaded TooLong)) ∷ [])
      (Err (refusal.BadStory (number_of of_story.TooLarge)))
  loads-long-text does =
      loads-load most_text name before now text_in_file TooLong
      (Err (refusal.BadStory (number_of of_story.TooLarge))) does
      (λ file handed. let long = long-is most_text file handed in ap text_in_file long.1 ∙ longer-text long.0 long.2)

  module _ (bytes : List ℕ) (does : ShelfCall before (load_file name ceiling, Ok (loaded (Found bytes))) now) where
    -- the file is a story
    pub loads-story : (story : FlatStory) → accepted bytes ≡ Ok story
        → LoadsFile ceiling story_in_file before now name ((load_file name ceiling, Ok (loaded (Found bytes))) ∷ [])
        (Ok story)
    loads-story story good =
        loads-load ceiling name before now story_in_file (Found bytes) (Ok story) does
        (λ file handed. ap story_in_file (found-is ceiling bytes file handed) ∙ shorter-story bytes does.answer
        ∙ ap story_or_number good)

    bad-story : (f : StoryFault) → (f ≢ of_story.NoMemory → accepted bytes ≡ Err f)
        → LoadGives ceiling story_in_file (Some bytes) (Err (refusal_of_story f))
    bad-story of_story.NoMemory bad = does.answer
    bad-story f bad = shorter-story bytes does.answer ∙ ap story_or_number (bad (λ e. cc))

    -- it is none
    pub loads-no-story : (f : StoryFault) → (f ≢ of_story.NoMemory → accepted bytes ≡ Err f)
        → LoadsFile ceiling story_in_file before now name ((load_file name ceiling, Ok (loaded (Found bytes))) ∷ [])
        (Err (refusal_of_story f))
    loads-no-story f bad =
        loads-load ceiling name before now story_in_file (Found bytes) (Err (refusal_of_story f)) does
        (λ file handed. subst (λ (o : Option (List ℕ)). LoadGives ceiling story_in_file o (Err (refusal_of_story f)))
        (sym (found-is ceiling bytes file handed)) (bad-story f bad))

  -- the file is a text
  pub loads-text : (bytes : List ℕ) → ShelfCall before (load_file name most_text, Ok (loaded (Found bytes))) now
      → LoadsFile most_text text_in_file before now name ((load_file name most_text, Ok (loaded (Found bytes))) ∷ [])
      (Ok bytes)
  loads-text bytes does =
      loads-load most_text name before now text_in_file (Found bytes) (Ok bytes) does
      (λ file handed. ap text_in_file (found-is most_text bytes file handed) ∙ shorter-text bytes does.answer)

-- a file with a story can be loaded
by-size : (bytes : List ℕ) (story : FlatStory) (b : Bool) → nat_lt ceiling (length bytes) ≡ b
    → (let r : Result FlatStory ℕ = if b then Err (number_of of_story.TooLarge)
    else story_or_number (accepted bytes) in r ≡ Ok story) → length bytes ≤ ceiling
by-size bytes story true is e = absurd cc
by-size bytes story false is e = ltb-false ceiling (length bytes) is

pub loadable : (file : Option (List ℕ)) (story : FlatStory) → story_in_file file ≡ Ok story → IsLoadable ceiling file
loadable None story e = cc
loadable (Some bytes) story e = by-size bytes story (nat_lt ceiling (length bytes)) refl e

-- and so can one with a text
text-by-size : (bytes text : List ℕ) (b : Bool) → nat_lt most_text (length bytes) ≡ b
    → (let r : Result (List ℕ) ℕ = if b then Err (number_of of_story.TooLarge) else Ok bytes in r ≡ Ok text)
    → length bytes ≤ most_text
text-by-size bytes text true is e = absurd cc
text-by-size bytes text false is e = ltb-false most_text (length bytes) is

pub text-loadable : (file : Option (List ℕ)) (text : List ℕ) → text_in_file file ≡ Ok text → IsLoadable most_text file
text-loadable None text e = cc
text-loadable (Some bytes) text e = text-by-size bytes text (nat_lt most_text (length bytes)) refl e
