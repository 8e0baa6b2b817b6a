-- What comes of a source over parts of a run that follow one another.
use Rattle.std.proofs.Common.{◌≡◌, ◌≢◌, ℕ, ◌+◌, ◌<◌, ◌≤◌, ◌-◌, ◌⊎◌, inl, inr, List, [], ◌∷◌, ◌++◌, length, take, drop}
use Rattle.std.proofs.Common.{Bool, true, false, Result, Ok, Err, IfOk, IfErr, refl, ap, subst, sym, ◌∙◌, arith}
use Rattle.std.proofs.Common.{append_assoc, append-nil, length-append, length-drop}
use Rattle.std.proofs.lemmas.Bool.{cases_lt}
use Rattle.std.specs.List.{AllByRecursion}
use Rattle.gx_outside.specs.Outside.{FlatSource, raised_by, raised_times}
use Rattle.gx_outside.specs.Reads.{SourceRead}
use Rattle.gx_outside.specs.declared.devices.Failed.{Failed}
use Rattle.gx_session.specs.declared.lines.NoLine.{NoLine}
use Rattle.gx_session.specs.declared.lines.NoLine.TheVariants as no
use Rattle.gx_session.specs.Constants.{longest_line, piece}
use Rattle.gx_session.specs.Input.{NextLine, line, next_line, HasChars}
use Rattle.gx_session.specs.Lines.{HeldLines, chars_of}
use Rattle.gx_session.specs.Reading.{IsComing, IsOver, ReadStep, Fed, FillsBy, spare, ReadsFew, Takes, GainsPiece}
use Rattle.gx_session.specs.Reading.{SayEnd, Fills, HoldsFew, IsPartial, TakesLine}
use Rattle.gx_session.specs.Reads.{bytes_read}
use Rattle.gx_session.proofs.Calling.{chain-append}
use Rattle.gx_session.proofs.Storing.{raised-more}
use Rattle.gx_session.proofs.NextLines.{pos, next-long, next-held, next-last, next-none}

-- THE READS
-- each has room for a piece
abbrev HavePieces : List SourceRead → Type 0
HavePieces reads = AllByRecursion (λ (r : SourceRead). r.0 ≡ piece) reads

pieces-and : (one two : List SourceRead) → HavePieces one → HavePieces two → HavePieces (one ++ two)
pieces-and [] two all more = more
pieces-and ((room, gave) ∷ one) two all more = (all.0, pieces-and one two all.1 more)

read-append : (one two : List SourceRead) → bytes_read (one ++ two) ≡ bytes_read one ++ bytes_read two
read-append [] two = refl
read-append ((room, Ok bytes) ∷ one) two = ap (λ (x : List ℕ). bytes ++ x) (read-append one two)
    ∙ sym (append_assoc bytes (bytes_read one) (bytes_read two))
read-append ((room, Err e) ∷ one) two = read-append one two

says-split : (one two : List SourceRead) → SayEnd (one ++ two) → SayEnd one ⊎ SayEnd two
says-split [] two s = inr s
says-split ((room, Ok []) ∷ one) two s = inl tt
says-split ((room, Ok (x ∷ xs)) ∷ one) two s = says-split one two s
says-split ((room, Err e) ∷ one) two s = says-split one two s

pub says-there : (reads : List SourceRead) (room : ℕ) (front rest : List SourceRead)
    → reads ≡ front ++ (room, Ok []) ∷ rest → SayEnd reads
says-there reads room front rest is = subst SayEnd (sym is) (there front)
  where
    there : (front : List SourceRead) → SayEnd (front ++ (room, Ok []) ∷ rest)
    there [] = tt
    there ((r, Ok []) ∷ front) = tt
    there ((r, Ok (x ∷ xs)) ∷ front) = there front
    there ((r, Err e) ∷ front) = there front

either : {A B C : Type 0} → (A → C) → (B → C) → A ⊎ B → C
either f g (inl x) = f x
either f g (inr y) = g y

-- a read that gave some bytes doesn't say so
says-some : (got : List ℕ) → 0 < length got → SayEnd ((piece, Ok got) ∷ []) → ⊥
says-some [] some s = absurd (omega arith)
says-some (x ∷ xs) some s = s

pub fed-on : {S : Type 0} (reading : ReadStep S) (seen : S → FlatSource) (a b c : HeldLines) (s t u : S)
    (P Q R : List ℕ → List ℕ → Type 0) → Fed reading seen a b s t P → Fed reading seen b c t u Q
    → ((x y z : List ℕ) → P x y → Q y z → R x z)
    → Fed reading seen a c s u R
fed-on reading seen a b c s t u P Q R f g join = record {
  reads = f.reads ++ g.reads;
  chain = chain-append reading s t u f.reads g.reads f.chain g.chain;
  pieces = pieces-and f.reads g.reads f.pieces g.pieces;
  said = either (λ e. g.said (inl (f.said (inl e))))
      (λ e. either (λ x. g.said (inl (f.said (inr x)))) (λ y. g.said (inr y)) (says-split f.reads g.reads e));
  over = λ o. g.over (f.over o);
  comes = λ z is. let two = g.comes z is in let one = f.comes two.0 two.1 in
      (one.0, one.1, join one.0 two.0 z one.2 two.2);
  given = λ z is.
      let two = g.comes z is in
      f.given two.0 two.1 ∙ ap (λ (x : List ℕ). bytes_read f.reads ++ x) (g.given z is)
      ∙ sym (append_assoc (bytes_read f.reads) (bytes_read g.reads) z)
      ∙ ap (λ (x : List ℕ). x ++ z) (sym (read-append f.reads g.reads));
}

-- nothing was read
pub fed-same : {S : Type 0} (reading : ReadStep S) (seen : S → FlatSource) (a : HeldLines) (s : S)
    (P : List ℕ → List ℕ → Type 0) → ((x : List ℕ) → P x x) → Fed reading seen a a s s P
fed-same reading seen a s P same = record {
  reads = [];
  chain = refl;
  pieces = tt;
  said = either (λ e. e) (λ n. absurd n);
  over = λ o. o;
  comes = λ x is. (x, is, same x);
  given = λ x is. refl;
}

pub fed-lines : {S : Type 0} (reading : ReadStep S) (seen : S → FlatSource) (a b : HeldLines) (s : S)
    (P : List ℕ → List ℕ → Type 0) → b ≡ a → ((x : List ℕ) → P x x) → Fed reading seen a b s s P
fed-lines reading seen a b s P lines same =
    subst (λ (c : HeldLines). Fed reading seen a c s s P) (sym lines) (fed-same reading seen a s P same)

-- what is said of what may come is handed on
pub fed-coming : {S : Type 0} (reading : ReadStep S) (seen : S → FlatSource) (a b c : HeldLines) (s t : S)
    (P Q : List ℕ → List ℕ → Type 0) → c ≡ b → Fed reading seen a b s t P
    → ((x y : List ℕ) → IsComing b (seen t) y → P x y → Q x y)
    → Fed reading seen a c s t Q
fed-coming reading seen a b c s t P Q lines f to =
    let here : Fed reading seen a b s t Q = record {
      reads = f.reads;
      chain = f.chain;
      pieces = f.pieces;
      said = f.said;
      over = f.over;
      comes = λ y is. let one = f.comes y is in (one.0, one.1, to one.0 y is one.2);
      given = λ y is. f.given y is;
    } in
    subst (λ (l : HeldLines). Fed reading seen a l s t Q) (sym lines) here

pub fed-as : {S : Type 0} (reading : ReadStep S) (seen : S → FlatSource) (a b : HeldLines) (s t : S)
    (P Q : List ℕ → List ℕ → Type 0) → Fed reading seen a b s t P → ((x y : List ℕ) → P x y → Q x y)
    → Fed reading seen a b s t Q
fed-as reading seen a b s t P Q f to = fed-coming reading seen a b b s t P Q refl f (λ x y is. to x y)

-- nothing was read, and all stands but what is held
pub fed-still : {S : Type 0} (reading : ReadStep S) (seen : S → FlatSource) (a b : HeldLines) (s : S)
    → b.ended ≡ a.ended → Fed reading seen a b s s (λ x y. x ≡ y)
fed-still reading seen a b s ended = record {
  reads = [];
  chain = refl;
  pieces = tt;
  said = either (λ e. ended ∙ e) (λ n. absurd n);
  over = λ o e. o (sym ended ∙ e);
  comes = λ x is. (x, record { told = is.told; over = λ e. is.over (ended ∙ e) }, refl);
  given = λ x is. refl;
}

-- no read was made, or more after others
pub reads-none : (ended over : Bool) (source : FlatSource) (coming : List ℕ) → over ≡ ended
    → ReadsFew ended over source source coming coming 0
reads-none ended over source coming same =
    let units : spare over ≡ spare ended = ap spare same in
    record { reads = 0; made = refl; offered = refl; few = omega arith }

pub reads-on : (a b c : Bool) (s t u : FlatSource) (x y z : List ℕ) (more : ℕ) → ReadsFew a b s t x y 0
    → ReadsFew b c t u y z more → ReadsFew a c s u x z more
reads-on a b c s t u x y z more one two =
    let few : one.reads + length y + spare b ≤ length x + spare a + 0 = one.few in
    let few' : two.reads + length z + spare c ≤ length y + spare b + more = two.few in
    record {
      reads = two.reads + one.reads;
      made = two.made ∙ ap (raised_times two.reads 1) one.made ∙ raised-more two.reads one.reads 1 s.calls.made;
      offered = two.offered ∙ ap (raised_times two.reads piece) one.offered
          ∙ raised-more two.reads one.reads piece s.offered;
      few = omega arith;
    }

-- what was read so far of what comes
pub record ReadOn (first now : HeldLines) (before source : FlatSource) (x y : List ℕ) : Type 0 where
  pub same : first.held ++ x ≡ now.held ++ y
  pub reads : ReadsFew first.ended now.ended before source x y 0

module _ {S : Type 0} (reading : ReadStep S) (seen : S → FlatSource) (first now : HeldLines) (before source : S)
    (fed : Fed reading seen first now before source (ReadOn first now (seen before) (seen source))) where
  pub too-long : longest_line ≤ pos now.held
      → Fed reading seen first now before source
      (λ x y. Takes first now (seen before) (seen source) x y (Err no.TooLong))
  too-long long =
      fed-as reading seen first now before source (ReadOn first now (seen before) (seen source))
      (λ x y. Takes first now (seen before) (seen source) x y (Err no.TooLong)) fed
      (λ x y r. record { line = (ap next_line r.same ∙ next-long now.held y long, sym r.same); reads = r.reads })

  pub few-held : (searched : ℕ) (later : HeldLines) (r : Result (List ℕ) NoLine) → pos now.held < length now.held
      → searched ≤ pos now.held → length now.held ≤ searched + piece
      → IfOk r (λ chars. (chars ≡ chars_of (take (pos now.held) now.held))
      × (later ≡ record now { held = drop (pos now.held + 1) now.held }))
      → IfErr r (λ e. (e ≡ no.NoMemory) × (chars_of (take (pos now.held) now.held) ≢ []) × (later ≡ now))
      → HoldsFew later.held r
  few-held searched later (Ok chars) here after few ok err =
      let size : length (drop (pos now.held + 1) now.held) ≡ length now.held - (pos now.held + 1) =
      length-drop (pos now.held + 1) now.held in
      let same : length later.held ≡ length (drop (pos now.held + 1) now.held) =
      ap (λ (l : HeldLines). length l.held) ok.1 in
      omega arith
  few-held searched later (Err e) here after few ok err =
      subst (λ (f : NoLine). HoldsFew later.held (let q : Result (List ℕ) NoLine = Err f in q)) (sym err.0) tt

  -- nothing more was read
  read-still : (later : HeldLines) → later.ended ≡ now.ended → (x y z : List ℕ)
      → ReadOn first now (seen before) (seen source) x y → y ≡ z
      → ReadsFew first.ended later.ended (seen before) (seen source) x z 0
  read-still later ended x y z r same =
      subst (λ (w : List ℕ). ReadsFew first.ended later.ended (seen before) (seen source) x w 0) same
      (reads-on first.ended now.ended later.ended (seen before) (seen source) (seen source) x y y 0 r.reads
      (reads-none now.ended later.ended (seen source) y ended))

  -- memory ran out for the characters of this line, and all stands as it was
  no-room : (later : HeldLines) (l : NextLine) (x y : List ℕ) → HasChars l → next_line (first.held ++ x) ≡ l
      → first.held ++ x ≡ now.held ++ y → later ≡ now
      → TakesLine (first.held ++ x) (later.held ++ y) (let r : Result (List ℕ) NoLine = Err no.NoMemory in r)
  no-room later l x y some is same stays =
      (subst HasChars (sym is) some, ap (λ (k : HeldLines). k.held ++ y) stays ∙ sym same)

  -- a line that is held
  pub takes-held : (later : HeldLines) (r : Result (List ℕ) NoLine) → pos now.held < length now.held
      → pos now.held < longest_line
      → IfOk r (λ chars. (chars ≡ chars_of (take (pos now.held) now.held))
      × (later ≡ record now { held = drop (pos now.held + 1) now.held }))
      → IfErr r (λ e. (e ≡ no.NoMemory) × (chars_of (take (pos now.held) now.held) ≢ []) × (later ≡ now))
      → Fed reading seen first later before source (λ x y. Takes first later (seen before) (seen source) x y r)
  takes-held later (Ok chars) here short ok err =
      fed-on reading seen first now later before source source (ReadOn first now (seen before) (seen source))
      (λ x y. x ≡ y) (λ x y. Takes first later (seen before) (seen source) x y (Ok chars)) fed
      (fed-still reading seen now later source (ap (λ (l : HeldLines). l.ended) ok.1))
      (λ x y z r same. record {
        line =
            ap next_line r.same ∙ next-held now.held y here short
            ∙ ap (λ (c : List ℕ). line c (drop (pos now.held + 1) now.held ++ y)) (sym ok.0)
            ∙ ap (λ (l : HeldLines). line chars (l.held ++ y)) (sym ok.1)
            ∙ ap (λ (w : List ℕ). line chars (later.held ++ w)) same;
        reads = read-still later (ap (λ (l : HeldLines). l.ended) ok.1) x y z r same;
      })
  takes-held later (Err e) here short ok err =
      fed-on reading seen first now later before source source (ReadOn first now (seen before) (seen source))
      (λ x y. x ≡ y) (λ x y. Takes first later (seen before) (seen source) x y (Err e)) fed
      (fed-still reading seen now later source (ap (λ (l : HeldLines). l.ended) err.2))
      (λ x y z r same. subst (λ (f : NoLine). Takes first later (seen before) (seen source) x z (Err f)) (sym err.0)
      (record {
        line = no-room later (line (chars_of (take (pos now.held) now.held)) (drop (pos now.held + 1) now.held ++ y))
            x z err.1
            (ap next_line r.same ∙ next-held now.held y here short)
            (r.same ∙ ap (λ (w : List ℕ). now.held ++ w) same) err.2;
        reads = read-still later (ap (λ (l : HeldLines). l.ended) err.2) x y z r same;
      }))

  -- the last line, or none
  module _ (over : now.ended ≡ true) (all : pos now.held ≡ length now.held)
      (short : length now.held < longest_line) where
    -- what comes is nothing
    record Nothing (later : HeldLines) (x y : List ℕ) : Type 0 where
      same : first.held ++ x ≡ now.held ++ []
      none-left : y ≡ []
      reads : ReadsFew first.ended later.ended (seen before) (seen source) x y 0

    nothing-comes : (later : HeldLines) → later.ended ≡ now.ended
        → Fed reading seen first later before source (Nothing later)
    nothing-comes later same =
        record {
          reads = fed.reads;
          chain = fed.chain;
          pieces = fed.pieces;
          said = λ e. same ∙ fed.said e;
          over = λ o e. fed.over o (sym same ∙ e);
          comes = λ y is.
              let gone : y ≡ [] = is.over (same ∙ over) in
              let one = fed.comes y (record { told = is.told; over = λ e. is.over (same ∙ e) }) in (
                one.0,
                one.1,
                record {
                  same = one.2.same ∙ ap (λ (w : List ℕ). now.held ++ w) gone;
                  none-left = gone;
                  reads = read-still later same one.0 y y one.2 refl;
                },
              );
          given = λ y is. fed.given y (record { told = is.told; over = λ e. is.over (same ∙ e) });
        }

    empty-is : (xs : List ℕ) → length xs ≡ 0 → xs ≡ []
    empty-is [] e = refl
    empty-is (x ∷ xs) e = cc

    pub takes-none : (later : HeldLines) → length now.held ≡ 0 → later ≡ now
        → Fed reading seen first later before source
        (λ x y. Takes first later (seen before) (seen source) x y (Err no.Ended))
    takes-none later empty same =
        fed-as reading seen first later before source (Nothing later)
        (λ x y. Takes first later (seen before) (seen source) x y (Err no.Ended))
        (nothing-comes later (ap (λ (l : HeldLines). l.ended) same))
        (λ x y e. record {
          line = (
            ap next_line (e.same ∙ ap (λ (w : List ℕ). w ++ []) (empty-is now.held empty)) ∙ next-none,
            ap (λ (w : List ℕ). later.held ++ w) e.none-left ∙ ap (λ (l : HeldLines). l.held ++ []) same ∙ sym e.same,
          );
          reads = e.reads;
        })

    pub takes-last : (later : HeldLines) (r : Result (List ℕ) NoLine) → 0 < length now.held
        → IfOk r (λ chars. (chars ≡ chars_of now.held) × (later ≡ record now { held = [] }))
        → IfErr r (λ e. (e ≡ no.NoMemory) × (chars_of now.held ≢ []) × (later ≡ now))
        → Fed reading seen first later before source (λ x y. Takes first later (seen before) (seen source) x y r)
    takes-last later (Ok chars) some ok err =
        fed-as reading seen first later before source (Nothing later)
        (λ x y. Takes first later (seen before) (seen source) x y (Ok chars))
        (nothing-comes later (ap (λ (l : HeldLines). l.ended) ok.1))
        (λ x y e. record {
          line =
              ap next_line e.same ∙ next-last now.held all some short ∙ ap (λ (c : List ℕ). line c []) (sym ok.0)
              ∙ ap (λ (l : HeldLines). line chars (l.held ++ [])) (sym ok.1)
              ∙ ap (λ (w : List ℕ). line chars (later.held ++ w)) (sym e.none-left);
          reads = e.reads;
        })
    takes-last later (Err f) some ok err =
        fed-as reading seen first later before source (Nothing later)
        (λ x y. Takes first later (seen before) (seen source) x y (Err f))
        (nothing-comes later (ap (λ (l : HeldLines). l.ended) err.2))
        (λ x y e. subst (λ (g : NoLine). Takes first later (seen before) (seen source) x y (Err g)) (sym err.0)
        (record {
          line = no-room later (line (chars_of now.held) []) x y err.1
              (ap next_line e.same ∙ next-last now.held all some short)
              (e.same ∙ ap (λ (w : List ℕ). now.held ++ w) (sym e.none-left)) err.2;
          reads = e.reads;
        }))

    pub takes-rest : (later : HeldLines) (r : Result (List ℕ) NoLine)
        → (length now.held ≡ 0 → (r ≡ Err no.Ended) × (later ≡ now))
        → IfOk r (λ chars. (chars ≡ chars_of now.held) × (later ≡ record now { held = [] }))
        → (0 < length now.held → IfErr r (λ e. (e ≡ no.NoMemory) × (chars_of now.held ≢ []) × (later ≡ now)))
        → Fed reading seen first later before source (λ x y. Takes first later (seen before) (seen source) x y r)
    takes-rest later r nothing ok err = rest-by (cases_lt 0 (length now.held))
      where
        rest-by : (0 < length now.held) ⊎ (length now.held ≤ 0)
            → Fed reading seen first later before source (λ x y. Takes first later (seen before) (seen source) x y r)
        rest-by (inl some) = takes-last later r some ok (err some)
        rest-by (inr empty) =
            let zero : length now.held ≡ 0 = omega arith in
            let is = nothing zero in
            subst (λ (q : Result (List ℕ) NoLine). Fed reading seen first later before source
            (λ x y. Takes first later (seen before) (seen source) x y q)) (sym is.0) (takes-none later zero is.1)

  -- the source failed
  module _ (later : HeldLines) (source' : S) (going : now.ended ≡ false)
      (tells : (seen source').tells ≡ (seen source).tells)
      (made : (seen source').calls.made ≡ raised_by 1 (seen source).calls.made)
      (offered : (seen source').offered ≡ raised_by piece (seen source).offered) where
    not-over : {C : Type 0} → now.ended ≡ true → C
    not-over e = let g = going in absurd cc

    going-on : later ≡ now → later.ended ≡ true → ⊥
    going-on same e = let e' : now.ended ≡ true = ap (λ (l : HeldLines). l.ended) (sym same) ∙ e in cc

    -- one more read
    one-more : (over : Bool) (y z : List ℕ) (more : ℕ) → 1 + length z + spare over ≤ length y + 1 + more
        → ReadsFew now.ended over (seen source) (seen source') y z more
    one-more over y z more less =
        let one : spare now.ended ≡ 1 = ap spare going in
        record { reads = 1; made = made; offered = offered; few = omega arith }

    pub fails : (gave : Result (List ℕ) Failed) → reading source (piece, gave) source' → (e : Failed)
        → Fills now later (seen source) (seen source') (Err e) gave
        → Fed reading seen first later before source'
        (λ x y. Takes first later (seen before) (seen source') x y (Err no.Failed))
    fails (Err f) call e is =
        fed-on reading seen first now later before source source' (ReadOn first now (seen before) (seen source))
        (λ x y. x ≡ y) (λ x y. Takes first later (seen before) (seen source') x y (Err no.Failed)) fed
        (record {
          reads = (piece, Err f) ∷ [];
          chain = (source', call, refl);
          pieces = (refl, tt);
          said = either (λ e. not-over e) (λ n. absurd n);
          over = λ o e. absurd (going-on is.0 e);
          comes = λ y c. (y, record { told = λ t. c.told (tells ∙ t) ∙ is.1 t; over = λ e. not-over e }, refl);
          given = λ y c. refl;
        })
        (λ x y z r same. record {
          line = ap (λ (l : HeldLines). l.held ++ z) is.0 ∙ ap (λ (w : List ℕ). now.held ++ w) (sym same) ∙ sym r.same;
          reads = failed x y z r same;
        })
      where
        failed : (x y z : List ℕ) → ReadOn first now (seen before) (seen source) x y → y ≡ z
            → ReadsFew first.ended later.ended (seen before) (seen source') x z 1
        failed x y z r same =
            let over : spare later.ended ≡ 1 = ap (λ (l : HeldLines). spare l.ended) is.0 ∙ ap spare going in
            let size : length y ≡ length z = ap length same in
            reads-on first.ended now.ended later.ended (seen before) (seen source) (seen source') x y z 1 r.reads
            (one-more later.ended y z 1 (omega arith))
    fails (Ok got) call e is = absurd is

    pub fails-few : (gave : Result (List ℕ) Failed) → reading source (piece, gave) source' → (e : Failed)
        → Fills now later (seen source) (seen source') (Err e) gave → pos now.held ≡ length now.held
        → length now.held < longest_line → HoldsFew later.held (let r : Result (List ℕ) NoLine = Err no.Failed in r)
    fails-few (Err f) call e is all short = subst IsPartial (ap (λ (l : HeldLines). l.held) (sym is.0)) (all, short)
    fails-few (Ok got) call e is all short = absurd is

    -- a piece was read
    module _ (got : List ℕ) (call : reading source (piece, Ok got) source')
        (g : GainsPiece now later (seen source) (seen source') got) where
      ended-or : (b : Bool) → later.ended ≡ b → 1 + spare later.ended ≤ length got + 1
      ended-or true e = let units : spare later.ended ≡ 0 = ap spare e in omega arith
      ended-or false e =
          let units : spare later.ended ≡ 1 = ap spare e in
          let some : 0 < length got = g.more e in
          omega arith

      says-ended : (b : Bool) → later.ended ≡ b → SayEnd ((piece, Ok got) ∷ []) → later.ended ≡ true
      says-ended true e s = e
      says-ended false e s = absurd (says-some got (g.more e) s)

      grown : (x y z : List ℕ) → ReadOn first now (seen before) (seen source) x y → y ≡ got ++ z
          → ReadOn first later (seen before) (seen source') x z
      grown x y z r same =
          let size : length y ≡ length got + length z = ap length same ∙ length-append got z in
          let units : 1 + spare later.ended ≤ length got + 1 = ended-or later.ended refl in
          record {
            same = r.same ∙ ap (λ (w : List ℕ). now.held ++ w) same ∙ sym (append_assoc now.held got z)
                ∙ ap (λ (w : List ℕ). w ++ z) (sym g.held);
            reads = reads-on first.ended now.ended later.ended (seen before) (seen source)
                (seen source') x y z 0 r.reads (one-more later.ended y z 0 (omega arith));
          }

      pub grows : Fed reading seen first later before source' (ReadOn first later (seen before) (seen source'))
      grows =
          fed-on reading seen first now later before source source' (ReadOn first now (seen before) (seen source))
          (λ x y. x ≡ got ++ y) (ReadOn first later (seen before) (seen source')) fed
          (record {
            reads = (piece, Ok got) ∷ [];
            chain = (source', call, refl);
            pieces = (refl, tt);
            said = either (λ e. not-over e) (λ s. says-ended later.ended refl s);
            over = λ o. g.over;
            comes = λ y c. (got ++ y, g.comes y c, refl);
            given = λ y c. ap (λ (x : List ℕ). x ++ y) (sym (append-nil got));
          })
          grown

-- a read that filled gave the bytes by which it did
by-fill : (old new : HeldLines) (before now : FlatSource) (gave : Result (List ℕ) Failed)
    → Fills old new before now (Ok tt) gave → (got : List ℕ) × (gave ≡ Ok got) × GainsPiece old new before now got
by-fill old new before now (Ok got) is = (got, refl, is)
by-fill old new before now (Err f) is = absurd is

pub grows-by : {S : Type 0} (reading : ReadStep S) (seen : S → FlatSource) (old new : HeldLines) (before now : S)
    → FillsBy reading seen old new before now (Ok tt)
    → (got : List ℕ) × reading before (piece, Ok got) now × GainsPiece old new (seen before) (seen now) got
grows-by reading seen old new before now f =
    let by = by-fill old new (seen before) (seen now) f.gave f.fills in
    (by.0, subst (λ (r : Result (List ℕ) Failed). reading before (piece, r) now) by.1 f.call, by.2)

-- at first nothing was read
pub read-first : {S : Type 0} (reading : ReadStep S) (seen : S → FlatSource) (first : HeldLines) (source : S)
    → Fed reading seen first first source source (ReadOn first first (seen source) (seen source))
read-first reading seen first source =
    fed-same reading seen first source (ReadOn first first (seen source) (seen source))
    (λ x. record { same = refl; reads = reads-none first.ended first.ended (seen source) x refl })

-- some bytes may come
coming-by : (lines : HeldLines) (source : FlatSource) (b : Bool) → source.tells ≡ b → IsOver lines source
    → (coming : List ℕ) × IsComing lines source coming
coming-by lines source true tells over = (source.left, record { told = λ t. refl; over = λ e. over e tells })
coming-by lines source false tells over = ([], record { told = λ t. absurd cc; over = λ e. refl })

pub some-coming : (lines : HeldLines) (source : FlatSource) → IsOver lines source
    → (coming : List ℕ) × IsComing lines source coming
some-coming lines source over = coming-by lines source source.tells refl over

-- at first nothing is held
pub first-over : (lines : HeldLines) (source : FlatSource) → lines ≡ record { held = []; ended = false }
    → IsOver lines source
first-over lines source first ended = let going : lines.ended ≡ false = ap (λ (l : HeldLines). l.ended) first in
    absurd cc
