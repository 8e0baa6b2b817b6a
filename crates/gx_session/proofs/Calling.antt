-- The calls of a device over parts of a run that follow one another, and what a run is told of those of a shelf.
use Rattle.std.proofs.Common.{◌≡◌, List, [], ◌∷◌, ◌++◌, Bool, true, false, Result, Ok, Err, refl, ap, subst, sym, ◌∙◌}
use Rattle.std.proofs.Common.{append_assoc, append-nil, arith}
use Rattle.gx_outside.specs.Chains.{Chain, IsCalled}
use Rattle.gx_outside.specs.Files.{Files}
use Rattle.gx_outside.specs.Outside.{FlatShelf}
use Rattle.gx_outside.specs.Shelves.{Request, load_file, store_file, remove_file, find_file, Answer, loaded}
use Rattle.gx_outside.specs.Shelves.{was_stored, Exchange, Trace, AnswerMayWant, answer_for, files_after, told_by}
use Rattle.gx_outside.specs.Shelves.{ShelfCall}
use Rattle.gx_outside.specs.declared.devices.Load.TheVariants.{Found}
use Rattle.gx_outside.specs.declared.devices.ShelfFault.{ShelfFault}
use Rattle.gx_outside.specs.declared.devices.ShelfFault.TheVariants as fault
use Rattle.gx_session.specs.Holding.{SendStep, Handed, HeldRun}
use Rattle.gx_session.specs.Standing.{Going}
use Rattle.gx_session.specs.Questions.{AreAnswered, AreTold}
use Rattle.gx_session.specs.Configurations.{Configuration}

-- THE CALLS
pub chain-append : {S C : Type 0} (step : S → C → S → Type 0) (a b c : S) (one two : List C) → Chain step a one b
    → Chain step b two c → Chain step a (one ++ two) c
chain-append {S} step a b c [] two same rest = subst (λ (x : S). Chain step x two c) same rest
chain-append step a b c (x ∷ one) two chain rest =
    (chain.0, chain.1, chain-append step chain.0 b c one two chain.2 rest)

pub chain-split : {S C : Type 0} (step : S → C → S → Type 0) (a c : S) (one two : List C)
    → Chain step a (one ++ two) c → (b : S) × Chain step a one b × Chain step b two c
chain-split step a c [] two chain = (a, refl, chain)
chain-split step a c (x ∷ one) two chain = let rest = chain-split step chain.0 c one two chain.2 in
    (rest.0, (chain.0, chain.1, rest.1), rest.2)

-- seen in another way
pub chain-map : {S T C : Type 0} (f : S → T) (step : S → C → S → Type 0) (step' : T → C → T → Type 0)
    → ((x : S) (c : C) (y : S) → step x c y → step' (f x) c (f y))
    → (a b : S) (trace : List C) → Chain step a trace b → Chain step' (f a) trace (f b)
chain-map f step step' law a b [] same = ap f same
chain-map f step step' law a b (c ∷ trace) chain =
    (f chain.0, law a c chain.0 chain.1, chain-map f step step' law chain.0 b trace chain.2)

-- no call, one, and more after others
pub called-none : {S C : Type 0} (step : S → C → S → Type 0) (a : S) (P : List C → Type 0) → P [] → IsCalled step a a P
called-none step a P holds = record { trace = []; chain = refl; holds = holds }

pub called-one : {S C : Type 0} (step : S → C → S → Type 0) (a b : S) (c : C) (P : List C → Type 0) → step a c b
    → P (c ∷ []) → IsCalled step a b P
called-one step a b c P does holds = record { trace = c ∷ []; chain = (b, does, refl); holds = holds }

pub called-on : {S C : Type 0} (step : S → C → S → Type 0) (a b c : S) (P Q R : List C → Type 0) → IsCalled step a b P
    → IsCalled step b c Q
    → ((one two : List C) → P one → Q two → R (one ++ two)) → IsCalled step a c R
called-on step a b c P Q R f g join = record {
  trace = f.trace ++ g.trace;
  chain = chain-append step a b c f.trace g.trace f.chain g.chain;
  holds = join f.trace g.trace f.holds g.holds;
}

pub called-as : {S C : Type 0} (step : S → C → S → Type 0) (a b : S) (P Q : List C → Type 0) → IsCalled step a b P
    → ((trace : List C) → P trace → Q trace) → IsCalled step a b Q
called-as step a b P Q f to = record { trace = f.trace; chain = f.chain; holds = to f.trace f.holds }

-- THE CALLS OF THREE DEVICES
module _ {S K F A B C : Type 0} (reading : S → A → S → Type 0) (sending : K → B → K → Type 0)
    (asking : F → C → F → Type 0) where
  -- no call
  pub none-called : (s : S) (k : K) (f : F) (P : List A → List B → List C → Type 0) → P [] [] []
      → IsCalled reading s s (λ x. IsCalled sending k k (λ y. IsCalled asking f f (P x y)))
  none-called s k f P holds = called-none reading s _ (called-none sending k _ (called-none asking f _ holds))

  module _ (s t : S) (k l : K) (f g : F) (P Q : List A → List B → List C → Type 0)
      (calls : IsCalled reading s t (λ x. IsCalled sending k l (λ y. IsCalled asking f g (P x y)))) where
    pub all-as : ((x : List A) (y : List B) (z : List C) → P x y z → Q x y z)
        → IsCalled reading s t (λ x. IsCalled sending k l (λ y. IsCalled asking f g (Q x y)))
    all-as to = called-as reading s t _ _ calls
        (λ x c. called-as sending k l _ _ c (λ y d. called-as asking f g _ _ d (λ z holds. to x y z holds)))

    -- with the calls at hand
    pub all-chained : ((x : List A) (y : List B) (z : List C) → Chain reading s x t → Chain sending k y l
        → Chain asking f z g → P x y z → Q x y z)
        → IsCalled reading s t (λ x. IsCalled sending k l (λ y. IsCalled asking f g (Q x y)))
    all-chained to =
        let one = calls.holds in
        let two = one.holds in
        record {
          trace = calls.trace;
          chain = calls.chain;
          holds = record {
            trace = one.trace;
            chain = one.chain;
            holds = record {
              trace = two.trace;
              chain = two.chain;
              holds = to calls.trace one.trace two.trace calls.chain one.chain two.chain two.holds;
            };
          };
        }

  -- and then the sink alone
  pub all-sent : (s t : S) (k l m : K) (f g : F) (P : List A → List B → List C → Type 0) (Q : List B → Type 0)
      (R : List A → List B → List C → Type 0)
      → IsCalled reading s t (λ x. IsCalled sending k l (λ y. IsCalled asking f g (P x y))) → IsCalled sending l m Q
      → ((x : List A) (y more : List B) (z : List C) → P x y z → Q more → R x (y ++ more) z)
      → IsCalled reading s t (λ x. IsCalled sending k m (λ y. IsCalled asking f g (R x y)))
  all-sent s t k l m f g P Q R calls last to =
      called-as reading s t _ _ calls
      (λ x c. called-on sending k l m _ _ _ c last
      (λ y more d told. called-as asking f g _ _ d (λ z holds. to x y more z holds told)))

-- the calls of two of them
pub both-as : {S K A B : Type 0} (reading : S → A → S → Type 0) (sending : K → B → K → Type 0) (s t : S) (k l : K)
    (P Q : List A → List B → Type 0) → IsCalled reading s t (λ x. IsCalled sending k l (P x))
    → ((x : List A) (y : List B) → P x y → Q x y)
    → IsCalled reading s t (λ x. IsCalled sending k l (Q x))
both-as reading sending s t k l P Q calls to =
    called-as reading s t _ _ calls (λ x c. called-as sending k l _ _ c (λ y holds. to x y holds))

-- the calls so far
pub asked-none : {K : Type 0} {sending : SendStep K} → (d : Handed sending) (P : Handed sending → Type 0) → P d
    → P (record d { asked = d.asked ++ [] })
asked-none d P holds = subst (λ (t : Trace). P (record d { asked = t })) (sym (append-nil d.asked)) holds

pub asked-on : {K : Type 0} {sending : SendStep K}
    → (d : Handed sending) (one two : Trace) (P : Handed sending → Type 0)
    → P (record d { asked = (d.asked ++ one) ++ two }) → P (record d { asked = d.asked ++ (one ++ two) })
asked-on d one two P holds = subst (λ (t : Trace). P (record d { asked = t })) (append_assoc d.asked one two) holds

-- CALLS THAT WEREN'T REFUSED
pub answered-back : (one two : Trace) → AreAnswered (one ++ two) → AreAnswered two
answered-back [] two all = all
answered-back ((r, Ok answer) ∷ one) two all = answered-back one two all
answered-back ((r, Err e) ∷ one) two all = absurd all

pub answered-and : (one two : Trace) → AreAnswered one → AreAnswered two → AreAnswered (one ++ two)
answered-and [] two all more = more
answered-and ((r, Ok answer) ∷ one) two all more = answered-and one two all more
answered-and ((r, Err e) ∷ one) two all more = absurd all

-- WHAT A RUN IS TOLD
pub told-front : (answers : Trace → Request → Answer) (asked one two : Trace) → AreTold answers asked (one ++ two)
    → AreTold answers asked one
told-front answers asked [] two told = tt
told-front answers asked ((r, Ok answer) ∷ one) two told =
    (told.0, told-front answers (asked ++ (r, Ok answer) ∷ []) one two told.1)
told-front answers asked ((r, Err fault.Failed) ∷ one) two told = tt
told-front answers asked ((r, Err fault.NoMemory) ∷ one) two told = told

pub told-back : (answers : Trace → Request → Answer) (asked one two : Trace) → AreAnswered one
    → AreTold answers asked (one ++ two) → AreTold answers (asked ++ one) two
told-back answers asked [] two all told = subst (λ (t : Trace). AreTold answers t two) (sym (append-nil asked)) told
told-back answers asked ((r, Ok answer) ∷ one) two all told =
    subst (λ (t : Trace). AreTold answers t two) (append_assoc asked ((r, Ok answer) ∷ []) one)
    (told-back answers (asked ++ (r, Ok answer) ∷ []) one two all told.1)
told-back answers asked ((r, Err e) ∷ one) two all told = absurd all

-- by the second of two parts of a run
pub told-next : {K : Type 0} {sending : SendStep K} → (start : Configuration) (entry : Handed sending) (h : HeldRun)
    (d : Handed sending) (before one two : Trace) → d.asked ≡ before ++ one → Going start entry h d
    → AreTold start.answers before (one ++ two) → AreTold start.answers (before ++ one) two
told-next start entry h d before one two same g told =
    told-back start.answers before one two (answered-back before one (subst AreAnswered same g.now.is_past.answered))
    told

-- the answers of a trace, in order, whatever is asked
answer-in : Result Answer ShelfFault → Answer
answer-in (Ok answer) = answer
answer-in (Err e) = loaded (Found [])

abbrev replayed : Trace → Trace → Request → Answer
replayed [] asked r = was_stored
replayed (c ∷ trace) [] r = answer-in c.1
replayed (c ∷ trace) (e ∷ asked) r = replayed trace asked r

replayed-at : (asked rest : Trace) (c : Exchange) (r : Request) → replayed (asked ++ c ∷ rest) asked r ≡ answer-in c.1
replayed-at [] rest c r = refl
replayed-at (e ∷ asked) rest c r = replayed-at asked rest c r

may-want : (r : Request) → AnswerMayWant r (loaded (Found []))
may-want (load_file name most) = omega arith
may-want (store_file name bytes) = tt
may-want (remove_file name) = tt
may-want (find_file name) = tt

replayed-told : (whole asked trace : Trace) → whole ≡ asked ++ trace → AreTold (replayed whole) asked trace
unfolding answer-in
replayed-told whole asked [] is = tt
replayed-told whole asked ((r, Ok answer) ∷ trace) is = (
  ap (λ (t : Trace). replayed t asked r) is ∙ replayed-at asked trace (r, Ok answer) r,
  replayed-told whole (asked ++ (r, Ok answer) ∷ []) trace (is ∙ sym (append_assoc asked ((r, Ok answer) ∷ []) trace)),
)
replayed-told whole asked ((r, Err fault.Failed) ∷ trace) is = tt
replayed-told whole asked ((r, Err fault.NoMemory) ∷ trace) is =
    subst (AnswerMayWant r) (sym (ap (λ (t : Trace). replayed t asked r) is
    ∙ replayed-at asked trace (r, Err fault.NoMemory) r)) (may-want r)

-- the answers of a shelf that tells: those of the files after some calls
abbrev files_left : Files → Trace → Files
files_left files [] = files
files_left files (c ∷ trace) = files_left (files_after files c.0) trace

told-left : (files : Files) (trace : Trace) (r : Request)
    → told_by files trace r ≡ answer_for (files_left files trace) r
told-left files [] r = refl
told-left files (c ∷ trace) r = told-left (files_after files c.0) trace r

left-more : (files : Files) (asked : Trace) (c : Exchange)
    → files_left files (asked ++ c ∷ []) ≡ files_after (files_left files asked) c.0
left-more files [] c = refl
left-more files (e ∷ asked) c = left-more (files_after files e.0) asked c

files-told : (s t : FlatShelf) (files : Files) (asked trace : Trace) → Chain ShelfCall s trace t → s.tells ≡ true
    → s.files ≡ files_left files asked → AreTold (told_by files) asked trace
files-told s t files asked [] chain tells same = tt
files-told s t files asked ((r, Ok answer) ∷ trace) chain tells same =
    let does = chain.1.files tells in (
      told-left files asked r ∙ ap (λ (f : Files). answer_for f r) (sym same) ∙ sym does.0,
      files-told chain.0 t files (asked ++ (r, Ok answer) ∷ []) trace chain.2 (chain.1.tells ∙ tells)
          (does.1 ∙ ap (λ (f : Files). files_after f r) same ∙ sym (left-more files asked (r, Ok answer))),
    )
files-told s t files asked ((r, Err fault.Failed) ∷ trace) chain tells same = tt
files-told s t files asked ((r, Err fault.NoMemory) ∷ trace) chain tells same =
    subst (AnswerMayWant r) (ap (λ (f : Files). answer_for f r) same ∙ sym (told-left files asked r))
    (chain.1.files tells).1

answers-by : (s t : FlatShelf) (trace : Trace) (b : Bool) → s.tells ≡ b → Chain ShelfCall s trace t
    → (answers : Trace → Request → Answer) × (s.tells ≡ true → answers ≡ told_by s.files) × AreTold answers [] trace
answers-by s t trace true tells chain = (told_by s.files, (λ e. refl), files-told s t s.files [] trace chain tells refl)
answers-by s t trace false tells chain = (replayed trace, (λ e. absurd cc), replayed-told trace [] trace refl)

-- There are answers of the calls: those of its files, where a shelf tells them.
pub some-answers : (s t : FlatShelf) (trace : Trace) → Chain ShelfCall s trace t
    → (answers : Trace → Request → Answer) × (s.tells ≡ true → answers ≡ told_by s.files) × AreTold answers [] trace
some-answers s t trace chain = answers-by s t trace s.tells refl chain
