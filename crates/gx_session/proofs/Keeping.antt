-- The devices over parts of a run that follow one another.
use Rattle.std.proofs.Common.{◌≡◌, ◌≢◌, ◌⊎◌, inl, inr, Result, Ok, Err, IfErr, false, refl, ap, sym, ◌∙◌}
use Rattle.gx_outside.specs.Outside.{FlatSource, FlatSink, FlatShelf, HasCause}
use Rattle.gx_session.specs.declared.ends.Halt.{Halt}
use Rattle.gx_session.specs.declared.ends.Halt.TheVariants as halt
use Rattle.gx_session.specs.Counts.{Blames}
use Rattle.gx_session.specs.Devices.{Devices}
use Rattle.gx_session.specs.Outcomes.{Keeps}
use Rattle.gx_session.proofs.Counting.{IsWell, blames-none, blames-same, well-none, well-of, well-and, blames-well}
use Rattle.gx_session.proofs.Counting.{blames-on, blames-call}

-- two errors
pub err-is : {T : Type 0} (e f : Halt) → (let r : Result T Halt = Err e in r ≡ Err f) → e ≡ f
err-is e f same = cc

pub no-err : {T : Type 0} (x : T) (e : Halt) → (let r : Result T Halt = Ok x in r ≡ Err e) → ⊥
no-err x e same = cc

-- No device failed.
pub record Stays (before now : Devices) : Type 0 where
  pub sink : IsWell before.sink.calls now.sink.calls
  pub sink_tells : now.sink.tells ≡ before.sink.tells
  pub source : IsWell before.source.calls now.source.calls
  pub source_tells : now.source.tells ≡ before.source.tells
  pub shelf : IsWell before.shelf.calls now.shelf.calls
  pub shelf_tells : now.shelf.tells ≡ before.shelf.tells

pub stays-none : (d : Devices) → Stays d d
stays-none d = record {
  sink = well-none d.sink.calls;
  sink_tells = refl;
  source = well-none d.source.calls;
  source_tells = refl;
  shelf = well-none d.shelf.calls;
  shelf_tells = refl;
}

pub stays-of : {T : Type 0} (a b : Devices) (x : T) → (let r : Result T Halt = Ok x in Keeps a b r) → Stays a b
stays-of {T} a b x k = record {
  sink = well-of a.sink.calls b.sink.calls (let r : Result T Halt = Ok x in r ≡ Err halt.Output) k.sink
      (no-err x halt.Output);
  sink_tells = k.sink_tells;
  source = well-of a.source.calls b.source.calls (let r : Result T Halt = Ok x in r ≡ Err halt.Input) k.source
      (no-err x halt.Input);
  source_tells = k.source_tells;
  shelf = well-of a.shelf.calls b.shelf.calls (let r : Result T Halt = Ok x in r ≡ Err halt.Shelf) k.shelf
      (no-err x halt.Shelf);
  shelf_tells = k.shelf_tells;
}

-- one part after another
pub keeps-after : {T : Type 0} (a b c : Devices) (r : Result T Halt) → Stays a b → Keeps b c r → Keeps a c r
keeps-after a b c r s k = record {
  sink = blames-on a.sink.calls b.sink.calls c.sink.calls (r ≡ Err halt.Output) s.sink k.sink;
  sink_tells = k.sink_tells ∙ s.sink_tells;
  source = blames-on a.source.calls b.source.calls c.source.calls (r ≡ Err halt.Input) s.source k.source;
  source_tells = k.source_tells ∙ s.source_tells;
  shelf = blames-on a.shelf.calls b.shelf.calls c.shelf.calls (r ≡ Err halt.Shelf) s.shelf k.shelf;
  shelf_tells = k.shelf_tells ∙ s.shelf_tells;
}

-- the same with another answer that blames the same device
pub keeps-same : {T U : Type 0} (a b : Devices) (r : Result T Halt) (q : Result U Halt)
    → ((e : Halt) → r ≡ Err e → q ≡ Err e) → ((e : Halt) → q ≡ Err e → r ≡ Err e) → Keeps a b r → Keeps a b q
keeps-same a b r q to from k = record {
  sink = blames-same a.sink.calls b.sink.calls (r ≡ Err halt.Output) (q ≡ Err halt.Output) k.sink (to halt.Output)
      (from halt.Output);
  sink_tells = k.sink_tells;
  source = blames-same a.source.calls b.source.calls (r ≡ Err halt.Input) (q ≡ Err halt.Input) k.source
      (to halt.Input) (from halt.Input);
  source_tells = k.source_tells;
  shelf = blames-same a.shelf.calls b.shelf.calls (r ≡ Err halt.Shelf) (q ≡ Err halt.Shelf) k.shelf (to halt.Shelf)
      (from halt.Shelf);
  shelf_tells = k.shelf_tells;
}

pub keeps-ok : {T U : Type 0} (a b : Devices) (x : T) (y : U) → (let r : Result T Halt = Ok x in Keeps a b r)
    → (let q : Result U Halt = Ok y in Keeps a b q)
keeps-ok {T} {U} a b x y k =
    keeps-same a b (let r : Result T Halt = Ok x in r) (let q : Result U Halt = Ok y in q)
    (λ e same. absurd (no-err x e same)) (λ e same. absurd (no-err y e same)) k

pub keeps-err : {T U : Type 0} (a b : Devices) (f : Halt) → (let r : Result T Halt = Err f in Keeps a b r)
    → (let q : Result U Halt = Err f in Keeps a b q)
keeps-err {T} {U} a b f k =
    keeps-same a b (let r : Result T Halt = Err f in r) (let q : Result U Halt = Err f in q)
    (λ e same. ap (λ (x : Halt). let q : Result U Halt = Err x in q) (err-is {T = T} f e same))
    (λ e same. ap (λ (x : Halt). let r : Result T Halt = Err x in r) (err-is {T = U} f e same)) k

not-memory : {T : Type 0} (r : Result T Halt) (e : Halt) → IfErr r (λ x. x ≡ halt.NoMemory) → e ≢ halt.NoMemory
    → r ≡ Err e → ⊥
not-memory (Ok x) e only other same = no-err x e same
not-memory {T} (Err f) e only other same = other (sym (err-is {T = T} f e same) ∙ only)

-- no device was called
pub keeps-none : {T : Type 0} (d : Devices) (r : Result T Halt) → IfErr r (λ x. x ≡ halt.NoMemory) → Keeps d d r
keeps-none d r only = record {
  sink = blames-none d.sink.calls d.sink.calls (r ≡ Err halt.Output) refl (not-memory r halt.Output only (λ e. cc));
  sink_tells = refl;
  source = blames-none d.source.calls d.source.calls (r ≡ Err halt.Input) refl (not-memory r halt.Input only (λ e. cc));
  source_tells = refl;
  shelf = blames-none d.shelf.calls d.shelf.calls (r ≡ Err halt.Shelf) refl (not-memory r halt.Shelf only (λ e. cc));
  shelf_tells = refl;
}

not-other : {T : Type 0} (r : Result T Halt) (one e : Halt) → IfErr r (λ x. (x ≡ one) ⊎ (x ≡ halt.NoMemory)) → e ≢ one
    → e ≢ halt.NoMemory → r ≡ Err e → ⊥
not-other (Ok x) one e only other other' same = no-err x e same
not-other {T} (Err f) one e (inl is) other other' same = other (sym (err-is {T = T} f e same) ∙ is)
not-other {T} (Err f) one e (inr is) other other' same = other' (sym (err-is {T = T} f e same) ∙ is)

-- the sink alone was called
pub keeps-sink : {T : Type 0} (d : Devices) (before now : FlatSink) (r : Result T Halt)
    → Blames before.calls now.calls (r ≡ Err halt.Output) → now.tells ≡ before.tells
    → IfErr r (λ x. (x ≡ halt.Output) ⊎ (x ≡ halt.NoMemory))
    → Keeps (record d { sink = before }) (record d { sink = now }) r
keeps-sink d before now r blames tells only = record {
  sink = blames;
  sink_tells = tells;
  source = blames-none d.source.calls d.source.calls (r ≡ Err halt.Input) refl
      (not-other r halt.Output halt.Input only (λ e. cc) (λ e. cc));
  source_tells = refl;
  shelf = blames-none d.shelf.calls d.shelf.calls (r ≡ Err halt.Shelf) refl
      (not-other r halt.Output halt.Shelf only (λ e. cc) (λ e. cc));
  shelf_tells = refl;
}

-- so was the source
pub keeps-source : {T : Type 0} (d : Devices) (before now : FlatSource) (r : Result T Halt)
    → Blames before.calls now.calls (r ≡ Err halt.Input) → now.tells ≡ before.tells
    → IfErr r (λ x. (x ≡ halt.Input) ⊎ (x ≡ halt.NoMemory))
    → Keeps (record d { source = before }) (record d { source = now }) r
keeps-source d before now r blames tells only = record {
  sink = blames-none d.sink.calls d.sink.calls (r ≡ Err halt.Output) refl
      (not-other r halt.Input halt.Output only (λ e. cc) (λ e. cc));
  sink_tells = refl;
  source = blames;
  source_tells = tells;
  shelf = blames-none d.shelf.calls d.shelf.calls (r ≡ Err halt.Shelf) refl
      (not-other r halt.Input halt.Shelf only (λ e. cc) (λ e. cc));
  shelf_tells = refl;
}

-- so was the shelf
pub keeps-shelf : {T : Type 0} (d : Devices) (before now : FlatShelf) (r : Result T Halt)
    → Blames before.calls now.calls (r ≡ Err halt.Shelf) → now.tells ≡ before.tells
    → IfErr r (λ x. (x ≡ halt.Shelf) ⊎ (x ≡ halt.NoMemory))
    → Keeps (record d { shelf = before }) (record d { shelf = now }) r
keeps-shelf d before now r blames tells only = record {
  sink = blames-none d.sink.calls d.sink.calls (r ≡ Err halt.Output) refl
      (not-other r halt.Shelf halt.Output only (λ e. cc) (λ e. cc));
  sink_tells = refl;
  source = blames-none d.source.calls d.source.calls (r ≡ Err halt.Input) refl
      (not-other r halt.Shelf halt.Input only (λ e. cc) (λ e. cc));
  source_tells = refl;
  shelf = blames;
  shelf_tells = tells;
}

-- one call of the shelf that didn't fail
pub stays-shelf : (d : Devices) (before now : FlatShelf) → HasCause before.calls now.calls false false
    → now.tells ≡ before.tells → Stays (record d { shelf = before }) (record d { shelf = now })
stays-shelf d before now cause tells =
    let none : Blames before.calls now.calls ⊥ =
    blames-call before.calls now.calls false false ⊥ cause (λ e. absurd e) (λ e. refl) in
    record {
      sink = well-none d.sink.calls;
      sink_tells = refl;
      source = well-none d.source.calls;
      source_tells = refl;
      shelf = well-of before.calls now.calls ⊥ none (λ e. e);
      shelf_tells = tells;
    }

pub stays-on : (a b c : Devices) → Stays a b → Stays b c → Stays a c
stays-on a b c one two = record {
  sink = well-and a.sink.calls b.sink.calls c.sink.calls one.sink two.sink;
  sink_tells = two.sink_tells ∙ one.sink_tells;
  source = well-and a.source.calls b.source.calls c.source.calls one.source two.source;
  source_tells = two.source_tells ∙ one.source_tells;
  shelf = well-and a.shelf.calls b.shelf.calls c.shelf.calls one.shelf two.shelf;
  shelf_tells = two.shelf_tells ∙ one.shelf_tells;
}

pub keeps-still : {T : Type 0} (a b : Devices) (x : T) → Stays a b → (let r : Result T Halt = Ok x in Keeps a b r)
keeps-still {T} a b x s =
    let r : Result T Halt = Ok x in
    record {
      sink = blames-well a.sink.calls b.sink.calls (r ≡ Err halt.Output) s.sink (no-err x halt.Output);
      sink_tells = s.sink_tells;
      source = blames-well a.source.calls b.source.calls (r ≡ Err halt.Input) s.source (no-err x halt.Input);
      source_tells = s.source_tells;
      shelf = blames-well a.shelf.calls b.shelf.calls (r ≡ Err halt.Shelf) s.shelf (no-err x halt.Shelf);
      shelf_tells = s.shelf_tells;
    }

-- calls of the source that didn't fail
pub stays-source : (d : Devices) (before now : FlatSource) → IsWell before.calls now.calls → now.tells ≡ before.tells
    → Stays (record d { source = before }) (record d { source = now })
stays-source d before now well tells = record {
  sink = well-none d.sink.calls;
  sink_tells = refl;
  source = well;
  source_tells = tells;
  shelf = well-none d.shelf.calls;
  shelf_tells = refl;
}
