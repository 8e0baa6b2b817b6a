-- A new echo stream that doesn't lead back to its window lets no chain come back.
use Rattle.std.proofs.Common.{zero, suc, ◌≡◌, ◌≢◌, ◌<◌, ◌≤◌, ◌+◌, ◌==◌, ◌||◌, ◌&&◌, ◌⊎◌, inl, inr, ℕ, Bool, true, false}
use Rattle.std.proofs.Common.{if◌then◌else◌, List, [], ◌∷◌, length, refl, sym, ◌∙◌, ap, arith}
use Rattle.std.proofs.lemmas.Bool.Decides.{nat_tests}
use Rattle.glk_objects.specs.Objects as objects
use Rattle.glk_objects.specs.Objects.{IsAboveAll}
use Rattle.glk_objects.proofs.Places.{id_at}
use Rattle.glk_streams.specs.declared.kinds.Stream.{Stream}
use Rattle.glk_streams.specs.Streams as streams
use Rattle.glk_windows.specs.declared.entries.Entry.{Entry}
use Rattle.glk_windows.specs.Windows.{entry_id, no_entry, window_entry, is_window}
use Rattle.glk_windows.specs.Changes.{with_echo_stream}
use Rattle.glk_world.specs.World.{Scene}
use Rattle.glk_world.specs.Putting.{window_of_stream, echo_of, leads_along, leads_to}
use Rattle.glk_world.specs.Chains.{echo_in, IsRanked, EchoesBelow, AreLinked}
use Rattle.glk_objects.proofs.Found as found
use Rattle.glk_world.proofs.Ranks.{under, under_all, under_less, under_some}
use Rattle.glk_world.proofs.Links.{there_or_not, no_zero}

both : (a b : Bool) → (a && b) ≡ true → (a ≡ true) × (b ≡ true)
both true b h = (refl, h)
both false b h = absurd (cc)

either : (a b : Bool) → (a || b) ≡ true → (a ≡ true) ⊎ (b ≡ true)
either true b h = inl refl
either false b h = inr h

leads_step : (n : ℕ) (w : Scene) (s win : ℕ) → leads_along (suc n) w s win
    ≡ (streams.has w.streams s && (window_of_stream w s == win || leads_along n w (echo_of w s) win))
unfolding leads_along
leads_step n w s win = refl

leads_no : (w : Scene) (s win : ℕ) → leads_along 0 w s win ≡ false
unfolding leads_along
leads_no w s win = refl

leads_there : (n : ℕ) (w : Scene) (s win : ℕ) → leads_along n w s win ≡ true → streams.has w.streams s ≡ true
leads_there zero w s win leads = absurd (let never = leads_no w s win in cc)
leads_there (suc n) w s win leads =
    (both (streams.has w.streams s) (window_of_stream w s == win || leads_along n w (echo_of w s) win)
    (sym (leads_step n w s win) ∙ leads)).0

-- what leads to the window does so at once, or by its echo stream
leads_by : (n : ℕ) (w : Scene) (s win : ℕ) → leads_along (suc n) w s win ≡ true
    → ((window_of_stream w s == win) ≡ true) ⊎ (leads_along n w (echo_of w s) win ≡ true)
leads_by n w s win leads =
    either (window_of_stream w s == win) (leads_along n w (echo_of w s) win)
    (both (streams.has w.streams s) (window_of_stream w s == win || leads_along n w (echo_of w s) win)
    (sym (leads_step n w s win) ∙ leads)).1

leads_here : (n : ℕ) (w : Scene) (s win : ℕ) → streams.has w.streams s ≡ true → (window_of_stream w s == win) ≡ true
    → leads_along (suc n) w s win ≡ true
leads_here n w s win there is = leads_step n w s win ∙ grind (arith, there, is)

leads_on : (n : ℕ) (w : Scene) (s win : ℕ) → streams.has w.streams s ≡ true → leads_along n w (echo_of w s) win ≡ true
    → leads_along (suc n) w s win ≡ true
leads_on n w s win there leads =
    leads_step n w s win ∙ elim (window_of_stream w s == win) as
    (λ b. (streams.has w.streams s && (b || leads_along n w (echo_of w s) win)) ≡ true) [
      | true ↦ grind (arith, there)
      | false ↦ grind (arith, there, leads)
    ]

leads_more : (n m : ℕ) (w : Scene) (s win : ℕ) → n ≤ m → leads_along n w s win ≡ true → leads_along m w s win ≡ true
leads_more zero m w s win le leads = absurd (let never = leads_no w s win in cc)
leads_more (suc n) zero w s win le leads = absurd (omega arith)
leads_more (suc n) (suc m) w s win le leads = elim (leads_by n w s win leads) [
  | inl is ↦ leads_here m w s win (leads_there (suc n) w s win leads) is
  | inr more ↦
      leads_on m w s win (leads_there (suc n) w s win leads) (leads_more n m w (echo_of w s) win (omega arith) more)
]

-- as many steps as there are streams are enough
leads_enough : (m n : ℕ) (w : Scene) (s win : ℕ) (rank : ℕ → ℕ) → IsRanked w.windows.entries w.streams rank
    → (streams.has w.streams s ≡ true → under rank (rank s) w.streams ≤ n)
    → leads_along m w s win ≡ true → leads_along n w s win ≡ true
leads_enough zero n w s win rank ranked few leads = absurd (let never = leads_no w s win in cc)
leads_enough (suc m) zero w s win rank ranked few leads =
    let there = leads_there (suc m) w s win leads in
    absurd (let small = few there in let some = under_some rank s w.streams there in omega (arith, small, some))
leads_enough (suc m) (suc n) w s win rank ranked few leads =
    let there = leads_there (suc m) w s win leads in
    elim (leads_by m w s win leads) [
      | inl is ↦ leads_here n w s win there is
      | inr more ↦ leads_on n w s win there (leads_enough m n w (echo_of w s) win rank ranked
          (λ echo. let less = under_less rank (rank (echo_of w s)) s w.streams there (ranked.falls s there echo) in
          let small = few there in omega (arith, less, small)) more)
    ]

-- the entry of a window with another echo stream
echoed_entry : (es : List Entry) (win stream other : ℕ) → objects.has entry_id es win ≡ true
    → (window_entry (objects.with entry_id es (record (window_entry es win) { echo = stream })) other).echo
    ≡ (if other == win then stream else (window_entry es other).echo)
echoed_entry es win stream other there =
    let new : Entry = record (window_entry es win) { echo = stream } in
    let id : new.id ≡ win = id_at entry_id no_entry es win there in
    elim (other == win) as (λ b. (other == win) ≡ b → (window_entry (objects.with entry_id es new) other).echo ≡
    (if b then stream else (window_entry es other).echo)) [
      | true ↦ λ is.
          let same : other ≡ new.id = grind (arith, nat_tests, is, id) in
          let known : objects.has entry_id es new.id ≡ true = rw id there in
          rw same (ap (λ (e : Entry). e.echo) (found.at_with_here entry_id no_entry es new known))
      | false ↦ λ is.
          let differs : other ≢ new.id = grind (arith, nat_tests, is, id) in
          ap (λ (e : Entry). e.echo) (found.at_with entry_id no_entry es new other differs)
    ] refl

echoes_with : (es : List Entry) (new : Entry) (n : ℕ) → EchoesBelow es n → new.echo < n
    → EchoesBelow (objects.with entry_id es new) n
unfolding objects.with
echoes_with [] new n below less = tt
echoes_with (e ∷ es) new n below less =
    elim (e.id == new.id) as (λ b. EchoesBelow (if b then new ∷ es else e ∷ objects.with entry_id es new) n) [
      | true ↦ (less, below.1)
      | false ↦ (below.0, echoes_with es new n below.1 less)
    ]

module _ (w : Scene) (win stream : ℕ) (rank : ℕ → ℕ) where
  leads_in : ℕ → Bool
  leads_in s = leads_along (suc (rank s)) w s win

  -- what leads to the window ranks above all that its new echo stream leads to
  lifted : ℕ → ℕ
  lifted s = if leads_in s then rank s + rank stream + 1 else rank s

  lifted_at : (s : ℕ) → leads_in s ≡ true → lifted s ≡ rank s + rank stream + 1
  unfolding lifted
  lifted_at s is = rw is refl

  lifted_off : (s : ℕ) → leads_in s ≡ false → lifted s ≡ rank s
  unfolding lifted
  lifted_off s is = rw is refl

  lifted_least : (s : ℕ) → rank s ≤ lifted s
  unfolding lifted
  lifted_least s = elim (leads_in s) as (λ b. rank s ≤ (if b then rank s + rank stream + 1 else rank s)) [
    | true ↦ omega arith
    | false ↦ omega arith
  ]

  -- the streams of the window itself, whose echo stream is the new one
  falls_new : IsRanked w.windows.entries w.streams rank → leads_to w stream win ≡ false → (s : ℕ)
      → streams.has w.streams s ≡ true → (window_of_stream w s == win) ≡ true → lifted stream < lifted s
  unfolding leads_in
  falls_new ranked apart s there is =
      let off : leads_in stream ≡ false = elim (there_or_not (leads_along (suc (rank stream)) w stream win)) [
        | inl leads ↦ absurd (let yes = leads_enough (suc (rank stream)) (length w.streams) w stream win rank ranked
            (λ here. under_all rank (rank stream) w.streams) leads in cc)
        | inr not_there ↦ not_there
      ] in
      let at : leads_in s ≡ true = leads_here (rank s) w s win there is in
      let low = lifted_off stream off in
      let high = lifted_at s at in
      omega (arith, low, high)

  -- all others
  falls_old : IsRanked w.windows.entries w.streams rank → (s : ℕ) → streams.has w.streams s ≡ true
      → streams.has w.streams (echo_of w s) ≡ true → lifted (echo_of w s) < lifted s
  unfolding leads_in
  falls_old ranked s there echo =
      let less = ranked.falls s there echo in
      elim (there_or_not (leads_along (suc (rank (echo_of w s))) w (echo_of w s) win)) [
        | inl leads ↦ let at : leads_in s ≡ true = leads_on (rank s) w s win there
            (leads_more (suc (rank (echo_of w s))) (rank s) w (echo_of w s) win (omega (arith, less)) leads) in
            let low = lifted_at (echo_of w s) leads in
            let high = lifted_at s at in
            omega (arith, low, high, less)
        | inr off ↦
            let low = lifted_off (echo_of w s) off in
            let high = lifted_least s in
            omega (arith, low, high, less)
      ]

  new_echo : (s : ℕ) → objects.has entry_id w.windows.entries win ≡ true → (window_of_stream w s == 0) ≡ false
      → echo_in (with_echo_stream w.windows win stream).entries w.streams s
      ≡ (if window_of_stream w s == win then stream else (window_entry w.windows.entries (window_of_stream w s)).echo)
  unfolding with_echo_stream
  new_echo s there some = rw some (echoed_entry w.windows.entries win stream (window_of_stream w s) there)

  old_echo : (s : ℕ) → (window_of_stream w s == 0) ≡ false
      → echo_of w s ≡ (window_entry w.windows.entries (window_of_stream w s)).echo
  old_echo s some = rw some refl

  zero_echo : (s : ℕ) → (window_of_stream w s == 0) ≡ true
      → echo_in (with_echo_stream w.windows win stream).entries w.streams s ≡ 0
  zero_echo s none = rw none refl

  ranked_echoed : (n : ℕ) → AreLinked w.windows.entries w.streams n → IsRanked w.windows.entries w.streams rank
      → objects.has entry_id w.windows.entries win ≡ true → leads_to w stream win ≡ false
      → IsRanked (with_echo_stream w.windows win stream).entries w.streams lifted
  ranked_echoed n linked ranked known apart = record {
    falls = λ s there echo. elim (there_or_not (window_of_stream w s == 0)) [
      | inl none ↦ absurd (no_zero w.streams (echo_in (with_echo_stream w.windows win stream).entries w.streams s)
          linked.first
          (zero_echo s none) echo)
      | inr some ↦ elim (there_or_not (window_of_stream w s == win)) [
        | inl is ↦ let e : echo_in (with_echo_stream w.windows win stream).entries w.streams s ≡ stream =
            new_echo s known some ∙ rw is refl in
            rw e (falls_new ranked apart s there is)
        | inr other ↦ let e : echo_in (with_echo_stream w.windows win stream).entries w.streams s ≡ echo_of w s =
            new_echo s known some ∙ rw other refl ∙ sym (old_echo s some) in
            let here : streams.has w.streams (echo_of w s) ≡ true =
            sym (ap (λ (t : ℕ). streams.has w.streams t) e) ∙ echo in
            rw e (falls_old ranked s there here)
      ]
    ];
  }

pub linked_echoed : (w : Scene) (win stream n : ℕ) → AreLinked w.windows.entries w.streams n
    → is_window w.windows win ≡ true → leads_to w stream win ≡ false → stream < n
    → AreLinked (with_echo_stream w.windows win stream).entries w.streams n
unfolding with_echo_stream
linked_echoed w win stream n linked known apart less = record {
  ranked = (
    lifted w win stream linked.ranked.0,
    ranked_echoed w win stream linked.ranked.0 n linked linked.ranked.1 known apart,
  );
  echoes =
      echoes_with w.windows.entries (record (window_entry w.windows.entries win) { echo = stream }) n linked.echoes
      less;
  rises = linked.rises;
  first = linked.first;
  windows = found.below_with entry_id no_entry w.windows.entries
      (record (window_entry w.windows.entries win) { echo = stream }) 0 linked.windows;
  begun = linked.begun;
}

-- an echo stream that is there has an identifier that was given
pub echo_given : (xs : List Stream) (es : List Entry) (stream n : ℕ) → IsAboveAll streams.id_of xs n → AreLinked es xs n
    → (stream ≡ 0) ⊎ (streams.has xs stream ≡ true) → stream < n
echo_given xs es stream n above linked (inl is_zero) = let some = linked.begun in omega (arith, some, is_zero)
echo_given xs es stream n above linked (inr there) =
    found.has_above streams.id_of streams.no_stream xs n stream above there

-- the fuel is enough to see whether a chain comes to a window
pub fuel_to_lead : (w : Scene) (rank : ℕ → ℕ) → IsRanked w.windows.entries w.streams rank → (s win more : ℕ)
    → leads_along (length w.streams + more) w s win ≡ leads_to w s win
fuel_to_lead w rank ranked s win more = elim (there_or_not (leads_along (length w.streams + more) w s win)) [
  | inl leads ↦ leads ∙ sym (leads_enough (length w.streams + more) (length w.streams) w s win rank ranked
      (λ here. under_all rank (rank s) w.streams) leads)
  | inr never ↦ elim (there_or_not (leads_to w s win)) [
    | inl leads ↦
        absurd (let longer = leads_more (length w.streams) (length w.streams + more) w s win (omega arith) leads in cc)
    | inr off ↦ never ∙ sym off
  ]
]
