-- What the parts of a save and of a restore make of it.
use Rattle.std.proofs.Common.{◌≡◌, ◌≢◌, inl, inr, ℕ, ◌==◌, ◌&&◌, if◌then◌else◌, Bool, true, false, List, Option, Some}
use Rattle.std.proofs.Common.{None, option_and_then, unwrap_or, Result, Ok, Err, is_ok, IsOk, IsTrue, refl, ap, subst}
use Rattle.std.proofs.Common.{sym, ◌∙◌}
use Rattle.std.specs.Cmp.Derive.{both_true}
use Rattle.std.specs.Result.{result_ok}
use Rattle.gx_words.specs.Faults.{MayLose}
use Rattle.gx_words.specs.declared.faults.Fault.{Fault}
use Rattle.gx_words.specs.declared.faults.Fault.TheVariants.{NoMemory}
use Rattle.gx_words.specs.Constants.{ceiling, glk_system}
use Rattle.gx_words.specs.Results.{◌>>=◌}
use Rattle.gx_story.specs.Stories.{FlatStory}
use Rattle.gx_state.specs.Copies.{Copy}
use Rattle.gx_state.specs.Flat.{FlatState}
use Rattle.gx_state.specs.declared.effects.Reply.{Reply}
use Rattle.gx_machine.specs.SavedCopies.{saved_copy}
use Rattle.glk_streams.specs.declared.kinds.Stream.{Stream}
use Rattle.glk_streams.specs.declared.kinds.StreamKind.{StreamKind}
use Rattle.glk_streams.specs.declared.kinds.StreamKind.TheVariants as kinds
use Rattle.glk_streams.specs.Stream as one
use Rattle.glk_streams.specs.Streams as streams
use Rattle.glk_world.specs.World.{Scene, FlatWorld, Said, after, silent, on_world}
use Rattle.glk_world.proofs.Texts.{nothing_said}
use Rattle.glk_replies.specs.Parts.{replies}
use Rattle.glk_text_calls.specs.Putting.{put_all}
use Rattle.glk_text_calls.specs.Input.{reading, has_read}
use Rattle.glk_text_calls.specs.PuttingSaves.{put_save, put_save_grows, rest_len, take_rest, take_rest_grows}
use Rattle.quetzal.specs.ReadingSaves.{copy_in_save}
use Rattle.quetzal.specs.Writing.{save_bytes}
use Rattle.quetzal.specs.declared.faults.SaveFault.{SaveFault}
use Rattle.quetzal.specs.declared.faults.SaveFault.TheVariants as of_save
use Rattle.gx_session.specs.Outcomes.{MaySave, Refuses}
use Rattle.gx_session.specs.Constants.{failed}
use Rattle.gx_session.specs.Saving.{saving, restoring, is_save_begun}
use Rattle.gx_session.specs.Saving.{is_restore_begun}
use Rattle.gx_session.proofs.Parts.{may_hold}
use Rattle.gx_session.proofs.Steps.{ok-is}

-- ---- saves

-- what is answered where a stream takes a save, or doesn't
abbrev pub reply_of : Option Reply → Reply
reply_of (Some reply) = reply
reply_of None = replies failed

abbrev pub with_reply : Result (FlatWorld × Option Reply) Fault → Result (FlatWorld × Reply) Fault
with_reply (Ok r) = Ok (r.0, reply_of r.1)
with_reply (Err fault) = Err fault

replied-on : (w : FlatWorld) (r : Result (Said × Option Reply) Fault)
    → on_world w (r >>= (λ x. Ok (x.0, unwrap_or x.1 (replies failed)))) ≡ with_reply (on_world w r)
replied-on w (Ok (said, Some reply)) = refl
replied-on w (Ok (said, None)) = refl
replied-on w (Err fault) = refl

saved-by : (w : FlatWorld) (r : Result (Said × Option Reply) Fault) (b : Bool) → b ≡ true
    → on_world w (if b then (r >>= (λ x. Ok (x.0, unwrap_or x.1 (replies failed))))
    else Ok (silent w.scene, replies failed)) ≡ with_reply (on_world w r)
saved-by w r true is = replied-on w r
saved-by w r false is = cc

-- a save that is put
pub saving-is : (w : FlatWorld) (f : FlatState) (stream : ℕ) (bytes : List ℕ) → (f.iosys.0 == glk_system) ≡ true
    → bytes ≡ save_bytes f.story (saved_copy f)
    → on_world w (saving w.scene f stream) ≡ with_reply (on_world w (put_save w.scene f stream bytes))
unfolding saving
saving-is w f stream bytes glk is =
    saved-by w (put_save w.scene f stream (save_bytes f.story (saved_copy f))) (f.iosys.0 == glk_system) glk
    ∙ ap (λ (x : List ℕ). with_reply (on_world w (put_save w.scene f stream x))) (sym is)

-- a window takes no save
no-window : (kind : StreamKind) (position : ℕ) (bytes : List ℕ) → (one.window_in kind == 0) ≡ false
    → one.fits_in kind position bytes ≡ false
no-window (kinds.Window win) position bytes other = refl
no-window (kinds.Memory at len wide) position bytes other = cc
no-window (kinds.File name content form) position bytes other = cc

no-room : (s : Stream) (bytes : List ℕ) → (one.window_of s == 0) ≡ false → one.fits s bytes ≡ false
unfolding one.fits
no-room s bytes other = no-window s.kind s.position bytes other

none-taken : (has writable none fits : Bool) → (has && writable && none) ≡ false → (none ≡ false → fits ≡ false)
    → (has && writable && fits) ≡ false
none-taken false writable none fits e only = refl
none-taken true false none fits e only = refl
none-taken true true none fits e only = only e

-- a stream may take a save, whatever its length
abbrev may_take : Scene → ℕ → Bool
may_take w stream =
    let s = streams.stream w.streams stream in
    streams.has w.streams stream && one.writable s && one.window_of s == 0

not-put : (w : Scene) (f : FlatState) (stream : ℕ) (bytes : List ℕ) → may_take w stream ≡ false
    → put_save w f stream bytes ≡ Ok (silent w, None)
unfolding put_save
not-put w f stream bytes none =
    let s : Stream = streams.stream w.streams stream in
    let takes : (streams.has w.streams stream && one.writable s && one.fits s bytes) ≡ false =
    none-taken (streams.has w.streams stream) (one.writable s) (one.window_of s == 0) (one.fits s bytes) none
    (no-room s bytes) in
    ap (λ (b : Bool). if b then (put_all w f stream bytes >>= (λ r. Ok (r.0, Some r.1))) else Ok (silent w, None)) takes

not-saved : (w : FlatWorld) (f : FlatState) (stream : ℕ) (glk takes : Bool) → (glk && takes) ≡ false
    → may_take w.scene stream ≡ takes
    → on_world w (if glk then (put_save w.scene f stream (save_bytes f.story (saved_copy f))
    >>= (λ x. Ok (x.0, unwrap_or x.1 (replies failed)))) else Ok (silent w.scene, replies failed))
    ≡ Ok (w, replies failed)
not-saved w f stream false takes none is = ap (λ (x : FlatWorld). Ok (x, replies failed)) (nothing_said w)
not-saved w f stream true takes none is =
    replied-on w (put_save w.scene f stream (save_bytes f.story (saved_copy f)))
    ∙ ap (λ (r : Result (Said × Option Reply) Fault). with_reply (on_world w r))
    (not-put w.scene f stream (save_bytes f.story (saved_copy f)) (is ∙ none))
    ∙ ap (λ (x : FlatWorld). Ok (x, replies failed)) (nothing_said w)

-- one that isn't begun
pub saving-fails : (w : FlatWorld) (f : FlatState) (stream : ℕ) → is_save_begun w.scene f stream ≡ false
    → on_world w (saving w.scene f stream) ≡ Ok (w, replies failed)
unfolding saving
saving-fails w f stream none = not-saved w f stream (f.iosys.0 == glk_system) (may_take w.scene stream) none refl

and-left : (a b : Bool) → (a && b) ≡ true → a ≡ true
and-left true b both = refl
and-left false b both = cc

pub begun-glk : (w : Scene) (f : FlatState) (stream : ℕ) → is_save_begun w f stream ≡ true
    → (f.iosys.0 == glk_system) ≡ true
begun-glk w f stream begun = and-left (f.iosys.0 == glk_system) (may_take w stream) begun

-- how a save that is begun ends, by how its put does
abbrev pub answer_of : Result (Option Reply) Fault → Result Reply Fault
answer_of (Ok reply) = Ok (reply_of reply)
answer_of (Err e) = Err e

pub save-by : (w w' : FlatWorld) (f f' : FlatState) → f' ≡ f
    → (stream : ℕ) (bytes : List ℕ) (r : Result (Option Reply) Fault)
    → is_save_begun w.scene f stream ≡ true → bytes ≡ save_bytes f.story (saved_copy f)
    → MayLose (IsTrue (put_save_grows w.scene stream bytes)) (λ reply. reply) r w w'
    (on_world w (put_save w.scene f' stream bytes))
    → MaySave (IsTrue (is_save_begun w.scene f stream)) (answer_of r) w w' (on_world w (saving w.scene f stream))
save-by w w' f f' same stream bytes (Ok reply) begun is put =
    saving-is w f stream bytes (begun-glk w.scene f stream begun) is
    ∙ ap (λ (x : FlatState). with_reply (on_world w (put_save w.scene x stream bytes))) (sym same) ∙ ap with_reply put
save-by w w' f f' same stream bytes (Err e) begun is put = (
  (λ other. (
    put.0 other,
    saving-is w f stream bytes (begun-glk w.scene f stream begun) is
        ∙ ap (λ (x : FlatState). with_reply (on_world w (put_save w.scene x stream bytes))) (sym same)
        ∙ ap with_reply (put.1.0 other),
  )),
  (λ memory. begun),
)

-- ---- restores

-- the copy that was read, if any
abbrev pub copy_in : FlatStory → Option (List ℕ) → Option Copy
copy_in story read = option_and_then (λ bytes. result_ok (copy_in_save ceiling bytes story)) read

abbrev pub with_copy : FlatStory → Result (FlatWorld × Option (List ℕ)) Fault → Result (FlatWorld × Option Copy) Fault
with_copy story (Ok r) = Ok (r.0, copy_in story r.1)
with_copy story (Err fault) = Err fault

read-on : (w : FlatWorld) (story : FlatStory) (r : Result (Said × Option (List ℕ)) Fault)
    → on_world w (r >>= (λ x. Ok (x.0, copy_in story x.1))) ≡ with_copy story (on_world w r)
read-on w story (Ok r) = refl
read-on w story (Err fault) = refl

read-by : (w : FlatWorld) (story : FlatStory) (r : Result (Said × Option (List ℕ)) Fault) (b : Bool) → b ≡ true
    → on_world w (if b then (r >>= (λ x. Ok (x.0, copy_in story x.1))) else Ok (silent w.scene, None))
    ≡ with_copy story (on_world w r)
read-by w story r true is = read-on w story r
read-by w story r false is = cc

-- what is taken of a stream and read
pub restoring-is : (w : FlatWorld) (f : FlatState) (stream : ℕ) → (f.iosys.0 == glk_system) ≡ true
    → on_world w (restoring w.scene f stream) ≡ with_copy f.story (on_world w (take_rest w.scene f stream))
unfolding restoring
restoring-is w f stream glk = read-by w f.story (take_rest w.scene f stream) (f.iosys.0 == glk_system) glk

-- nothing is, where the I/O system isn't Glk's
not-read : (w : FlatWorld) (r : Result (Said × Option Copy) Fault) (b : Bool) → b ≡ false
    → on_world w (if b then r else Ok (silent w.scene, None)) ≡ Ok (w, None)
not-read w r true none = cc
not-read w r false none = ap (λ (x : FlatWorld). Ok (x, None)) (nothing_said w)

pub restoring-fails : (w : FlatWorld) (f : FlatState) (stream : ℕ) → (f.iosys.0 == glk_system) ≡ false
    → on_world w (restoring w.scene f stream) ≡ Ok (w, None)
unfolding restoring
restoring-fails w f stream other =
    not-read w (take_rest w.scene f stream >>= (λ x. Ok (x.0, copy_in f.story x.1))) (f.iosys.0 == glk_system) other

with-copy-fine : (story : FlatStory) (r : Result (FlatWorld × Option (List ℕ)) Fault) → IsOk r
    → IsOk (with_copy story r)
with-copy-fine story (Ok r) fine = refl
with-copy-fine story (Err e) fine = cc

module _ (w w' : FlatWorld) (f f' : FlatState) (same : f' ≡ f) (stream : ℕ)
    (glk : (f.iosys.0 == glk_system) ≡ true) where
  restoring-so : on_world w (restoring w.scene f stream) ≡ with_copy f.story (on_world w (take_rest w.scene f' stream))
  restoring-so = restoring-is w f stream glk
      ∙ ap (λ (x : FlatState). with_copy f.story (on_world w (take_rest w.scene x stream))) (sym same)

  -- the stream has a fault, or wants memory
  pub read-refused : (e : Fault)
      → (let r : Result (Option (List ℕ)) Fault = Err e in
      MayLose (IsTrue (take_rest_grows w.scene f' stream)) (λ bytes. bytes) r w w'
      (on_world w (take_rest w.scene f' stream)))
      → (let r : Result (Option Copy) Fault = Err e in
      MayLose (IsTrue (is_restore_begun w.scene f stream)) (λ copy. copy) r w w'
      (on_world w (restoring w.scene f stream)))
  read-refused e took = (
    took.0,
    (
      (λ other. restoring-so ∙ ap (with_copy f.story) (took.1.0 other)),
      (λ memory. (
        both_true glk (and-left (may_hold w.scene stream)
            (has_read (reading w.scene f' stream false (rest_len (streams.stream w.scene.streams stream))))
            (took.1.1 memory).0),
        subst IsOk (sym restoring-so)
            (with-copy-fine f.story (on_world w (take_rest w.scene f' stream)) (took.1.1 memory).1),
      )),
    ),
  )

  -- it holds no save, or what it holds is read
  pub read-is : (read : Option (List ℕ)) (copy : Option Copy) → copy_in f.story read ≡ copy
      → on_world w (take_rest w.scene f' stream) ≡ Ok (w', read)
      → on_world w (restoring w.scene f stream) ≡ Ok (w', copy)
  read-is read copy is took = restoring-so ∙ ap (with_copy f.story) took ∙ ap (λ (x : Option Copy). Ok (w', x)) is

  -- what was taken was there to be read
  taken-by : (bytes : List ℕ) (r : Result (Said × Option (List ℕ)) Fault) (b : Bool)
      → on_world w (if b then r else Ok (silent w.scene, None)) ≡ Ok (w', Some bytes) → b ≡ true
  taken-by bytes r true took = refl
  taken-by bytes r false took = let other : None ≡ Some bytes =
      ap (λ (p : FlatWorld × Option (List ℕ)). p.1)
      (ok-is {A = FlatWorld × Option (List ℕ)} (after w (silent w.scene), None) (w', Some bytes) took) in cc

  taken : (bytes : List ℕ) → on_world w (take_rest w.scene f' stream) ≡ Ok (w', Some bytes)
      → may_hold w.scene stream ≡ true
  unfolding take_rest
  taken bytes took = taken-by bytes _ (may_hold w.scene stream) took

  module _ (bytes : List ℕ) (took : on_world w (take_rest w.scene f' stream) ≡ Ok (w', Some bytes)) where
    -- the reading wants memory
    read-wants : (let r : Result (Option Copy) Fault = Err NoMemory in
        MayLose (IsTrue (is_restore_begun w.scene f stream)) (λ copy. copy) r w w'
        (on_world w (restoring w.scene f stream)))
    read-wants = (
      (λ other. absurd (other refl)),
      (
        (λ other. absurd (other refl)),
        (λ memory. (both_true glk (taken bytes took), ap is_ok (restoring-so ∙ ap (with_copy f.story) took))),
      ),
    )

    -- it is the save of a copy
    pub read-found : (copy : Copy) → copy_in_save ceiling bytes f.story ≡ Ok copy
        → on_world w (restoring w.scene f stream) ≡ Ok (w', Some copy)
    read-found copy is = read-is (Some bytes) (Some copy) (ap result_ok is) took

    -- it is none, or the reading wants memory
    pub unread : (e : SaveFault) (result : Result (Option Copy) Fault)
        → (e ≢ of_save.NoMemory → copy_in_save ceiling bytes f.story ≡ Err e) → Refuses e result
        → MayLose (IsTrue (is_restore_begun w.scene f stream)) (λ copy. copy) result w w'
        (on_world w (restoring w.scene f stream))
    unread e result gave (inl memory) = subst
        (λ (r : Result (Option Copy) Fault). MayLose (IsTrue (is_restore_begun w.scene f stream))
        (λ copy. copy) r w w' (on_world w (restoring w.scene f stream))) (sym memory.1) read-wants
    unread e result gave (inr other) =
        subst (λ (r : Result (Option Copy) Fault). MayLose (IsTrue (is_restore_begun w.scene f stream))
        (λ copy. copy) r w w' (on_world w (restoring w.scene f stream))) (sym other.1)
        (read-is (Some bytes) None (ap result_ok (gave other.0)) took)
