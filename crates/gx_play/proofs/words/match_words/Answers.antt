use Rattle.std.proofs.Common.{ap, refl, sym, subst, ◌≡◌, ◌∙◌, ◌≢◌, true, false, [], ◌∷◌, inl, inr, map, arith}
use Rattle.clap.specs.Walk.{is_empty}
use Rattle.clap.specs.Words.{App, Kinds, IsAmong, HasKind, is_simple, is_simple_and_free, fault_of, matches_of, kind_of}
use Rattle.clap.specs.declared.error.Error.{Error}
use Rattle.clap.specs.declared.error.kind.ErrorKind.{ErrorKind}
use Rattle.clap.specs.declared.error.kind.ErrorKind.TheVariants as kind
use Rattle.clap.proofs.OnLiterals.{clap_on_literals}
use Rattle.gx_play.specs.Commands.{player, faults_of, matched_in}
use Rattle.gx_play.proofs.Matched.{no_command}
use Rattle.gx_play.proofs.words.match_words.Goals as goal

simple : is_simple player ≡ true
unfolding clap_on_literals player
simple = refl

free : is_simple_and_free player ≡ true
unfolding clap_on_literals player
free = refl

simple_app : (a : App) → a ≡ player → is_simple a ≡ true
simple_app a e = ap is_simple e ∙ simple

free_app : (a : App) → a ≡ player → is_simple_and_free a ≡ true
free_app a e = ap is_simple_and_free e ∙ free

some_kind : (k : ErrorKind) (ks : Kinds) → IsAmong k ks → is_empty ks ≡ false
some_kind k [] h = absurd h
some_kind k (x ∷ xs) h = grind arith

has_some : (ks : Kinds) (e : Error) → kind_of e ≢ kind.OutOfMemory → HasKind ks e → is_empty ks ≡ false
has_some ks e n (inl h) = absurd (n h)
has_some ks e n (inr h) = some_kind (kind_of e) ks h

pub returns-in-Ok : goal.returns-in-Ok
unfolding faults_of matched_in
returns-in-Ok c =
    let app = c.in_ok-command.ensures in
    let words = map (λ w. w.now) c.args.words.now in
    let quiet : is_empty (fault_of player words) ≡ true =
    ap is_empty (ap (λ a. fault_of a words) (sym app) ∙ c.in-Ok.ensures.kinds (free_app _ app)) in
    (quiet, (c.in-Ok.ensures.matches (simple_app _ app)).0 ∙ ap (λ a. matches_of a words) app)

pub returns : goal.returns
unfolding faults_of
returns c =
    let app = c.in_ok-command.ensures in
    let words = map (λ w. w.now) c.args.words.now in
    let P : App → Type 0 = λ a. HasKind (fault_of a words) c.in-Err.error in
    let h : HasKind (fault_of player words) c.in-Err.error = subst P app (c.in-Err.ensures.kinds (free_app _ app)) in
    no_command words (has_some (fault_of player words) c.in-Err.error
    (λ e. c.in_default.not-OutOfMemory (c.kind.ensures ∙ e)) h)
