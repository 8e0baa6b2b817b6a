-- The tally's methods at a call: what each is handed, and what its caller has of it. Assumes `Logic`.
--
-- `lend` and `take_back` have one contract, here `Counts`; that of `refuses` is `Refuses`.
use Rattle.std.proofs.Common.{◌≡◌, ℕ, ◌<◌, ◌^◌, Bool, true, List, [], ◌∷◌, refl, ap, w64}
use seplogic.Ra.Ura.{Ura}
use mir.Val.{Val, vunit, vint, vbool, vptr}
use base.Logic.{SProp, ent, sep, ex, guard, id⊢}
use base.Fml.{Lft, Share, ftrue, fsep, flft}
use prog.Memory.{Memory}
use prog.Routine.{Routine}
use types.Logic.{Logic, sem}
use contract.Monad.{Fun, fact}
use types.Kit.{‵, raw, ◌⊛◌, some, later, ◌$◌, ◌∵◌, !, qed, move, keep, use1, split, split3, join, pick, fjoin, feq_i}
use types.Kit.{feq_l, flt_i, check, show, await, updating, now as at_once, done}
use denote.RattleType.{RattleType}
use denote.Memory.{hidden_shr}
use denote.Builtin.{unit, bool}
use denote.Steps.{heard, nothing, only}
use denote.Triple.Statement.{Contract}
use denote.Triple.Spec.{triple_of}
use Rattle.gx_pool.specs.declared.tally.TheConstants.{MOST_SIZE, MOST_ALIGN}
use Rattle.gx_pool.specs.contracts.tally.Tally as TY
use Rattle.gx_pool.specs.contracts.tally.Tally.lend as TK
use Rattle.gx_pool.specs.contracts.tally.Tally.refuses as RF

abbrev pub TallyType : RattleType
TallyType = TY.the_row

module _ {M : Type 1} {𝓤 : Ura M} (𝓛 : Logic 𝓤) (at_mem : Memory → SProp 𝓤) (run : Routine → Fun 𝓤) where
  abbrev pub Counts : Contract 𝓤
  Counts = triple_of 𝓛 TK.signature (TK.spec 𝓛 at_mem run)

  abbrev pub at_counts : Lft → Share → ℕ × ℕ → TallyType.Denot → Counts.Ghost
  at_counts κ q c t = (((κ, tt), (q, tt), tt, (record { ref_ptr = c; now = t }, tt), (vptr c.0 c.1 ∷ [], tt)), tt)

module _ {M : Type 1} {𝓤 : Ura M} (𝓛 : Logic 𝓤) (at_mem : Memory → SProp 𝓤) (run : Routine → Fun 𝓤) (κ : Lft)
    (q : Share) (c : ℕ × ℕ) (t : TallyType.Denot) where
  open 𝓛 use {H, A}

  pub Counts-goes : ent 𝓤 (sep 𝓤 (sem 𝓛 (hidden_shr TallyType κ t c.0 c.1)) (A.lft κ q))
      ((Counts 𝓛 at_mem run).pre (at_counts 𝓛 at_mem run κ q c t))
  Counts-goes =
      qed 𝓛 (‵ (hidden_shr TallyType κ t c.0 c.1) ∷ ‵ (flft κ q) ∷ []) ∵ feq_i ! (List Val) (vptr c.0 c.1 ∷ [])
      (vptr c.0 c.1 ∷ []) refl $ fjoin ! $
      nothing ! $ move ! (1 ∷ []) $ fjoin ! $ nothing ! $ move ! (2 ∷ []) $ join ! $ join ! $ nothing !
      $ move ! (1 ∷ []) $ done !

  pub Counts-gives : (v : Val) → ent 𝓤 ((Counts 𝓛 at_mem run).post (at_counts 𝓛 at_mem run κ q c t) v)
      (H.⇛ (guard 𝓤 (v ≡ vunit) (A.lft κ q)))
  Counts-gives v =
      qed 𝓛 (raw ((Counts 𝓛 at_mem run).post (at_counts 𝓛 at_mem run κ q c t) v) ∷ []) ∵ updating ! $
      use1 𝓛 (later (some (λ (r : Unit {0}). ((‵ (flft κ q) ⊛ ‵ ftrue) ⊛ ‵ (unit.own_val r (v ∷ []))) ⊛ some
      (λ (ws : Unit {0} × Unit {0}). ‵ (fsep ftrue ftrue) ⊛ ‵ ftrue)))) (id⊢ 𝓤 _) $ await ! tt $ pick ! (λ r.
      split ! $ split ! $ move ! (1 ∷ []) $ feq_l !
      (λ e. split ! $ at_once ! $ check ! (ap only e) $ keep ! (0 ∷ []) $ done !))

module _ {M : Type 1} {𝓤 : Ura M} (𝓛 : Logic 𝓤) (at_mem : Memory → SProp 𝓤) (run : Routine → Fun 𝓤) where
  abbrev pub Refuses : Contract 𝓤
  Refuses = triple_of 𝓛 RF.signature (RF.spec 𝓛 at_mem run)

  abbrev pub at_refuses : Lft → Share → ℕ × ℕ → TallyType.Denot → ℕ → ℕ → Refuses.Ghost
  at_refuses κ q c t n a = (
    (
      (κ, tt),
      (q, tt),
      tt,
      (record { ref_ptr = c; now = t }, (n, (a, tt))),
      (vptr c.0 c.1 ∷ [], (vint w64 n ∷ [], (vint w64 a ∷ [], tt))),
    ),
    tt,
  )

module _ {M : Type 1} {𝓤 : Ura M} (𝓛 : Logic 𝓤) (at_mem : Memory → SProp 𝓤) (run : Routine → Fun 𝓤) (κ : Lft)
    (q : Share) (c : ℕ × ℕ) (t : TallyType.Denot) (n a : ℕ) where
  open 𝓛 use {H, A}

  pub Refuses-goes : n < 2 ^ 64 → a < 2 ^ 64 → ent 𝓤 (sep 𝓤 (sem 𝓛 (hidden_shr TallyType κ t c.0 c.1)) (A.lft κ q))
      ((Refuses 𝓛 at_mem run).pre (at_refuses 𝓛 at_mem run κ q c t n a))
  Refuses-goes fn fa =
      qed 𝓛 (‵ (hidden_shr TallyType κ t c.0 c.1) ∷ ‵ (flft κ q) ∷ []) ∵
      nothing ! $ flt_i ! a (2 ^ 64) fa $ feq_i ! (List Val) (vint w64 a ∷ []) (vint w64 a ∷ []) refl $ fjoin !
      $ fjoin ! $
      flt_i ! n (2 ^ 64) fn $ feq_i ! (List Val) (vint w64 n ∷ []) (vint w64 n ∷ []) refl $ fjoin ! $ fjoin !
      $ move ! (1 ∷ []) $
      feq_i ! (List Val) (vptr c.0 c.1 ∷ []) (vptr c.0 c.1 ∷ []) refl $ fjoin ! $ fjoin ! $
      nothing ! $ move ! (2 ∷ []) $ join ! $ join ! $ nothing ! $ move ! (1 ∷ []) $ done !

  -- what its answer says of the request
  abbrev pub IsBound : Bool → Type 0
  IsBound y = (MOST_SIZE < n → y ≡ true) × (MOST_ALIGN < a → y ≡ true)

  pub Refuses-gives : (v : Val) → ent 𝓤 ((Refuses 𝓛 at_mem run).post (at_refuses 𝓛 at_mem run κ q c t n a) v)
      (H.⇛ (ex 𝓤 (λ (y : Bool). guard 𝓤 (v ≡ vbool y) (guard 𝓤 (IsBound y) (A.lft κ q)))))
  Refuses-gives v =
      qed 𝓛 (raw ((Refuses 𝓛 at_mem run).post (at_refuses 𝓛 at_mem run κ q c t n a) v) ∷ []) ∵ updating ! $
      use1 𝓛 (later (some (λ (r : Bool). ((‵ (flft κ q) ⊛ ‵ ftrue) ⊛ ‵ (bool.own_val r (v ∷ []))) ⊛ some
      (λ (ws : Unit {0} × (Unit {0} × (Unit {0} × Unit {0}))).
      ‵ (fsep ftrue (fsep ftrue (fsep ftrue ftrue))) ⊛ raw (fact 𝓤 (MOST_SIZE < n → r ≡ true)) ⊛ raw
      (fact 𝓤 (MOST_ALIGN < a → r ≡ true)))))) (id⊢ 𝓤 _) $ await ! tt $ pick ! (λ r.
      split ! $ split ! $ move ! (1 ∷ []) $ feq_l !
      (λ e. split ! $ move ! (2 ∷ []) $ pick ! (λ ws. split3 ! $ move ! (1 ∷ 2 ∷ []) $
      heard ! (MOST_SIZE < n → r ≡ true) (λ large. heard ! (MOST_ALIGN < a → r ≡ true) (λ aligned. move ! (1 ∷ []) $
      at_once ! $ show ! (λ (y : Bool). guard 𝓤 (v ≡ vbool y) (guard 𝓤 (IsBound y) (A.lft κ q))) r
      $ check ! (ap only e) $ check ! (large, aligned) $ keep ! (0 ∷ []) $ done !)))))
