-- A method that requires what its trait requires, and ensures facts beside what its trait ensures. Assumes nothing.
use seplogic.Ra.Ura.{Ura}
use base.Logic.{SProp, ent, sep, wand, all, emp, all_i, ex_i, wand_i, via, mono_l, comm∗, emp∗, snd∗, fst∗}
use contract.Monad.{fact}
use borrow.Fn.Refines.{Gives, Turns}

pub ensures_more : {M : Type 1} (𝓤 : Ura M) (G R X : Type 0) (Asked : G → Type 0) (given : G → R → SProp 𝓤)
    (more : R → SProp 𝓤) (y : G)
    → Gives 𝓤 (fact 𝓤 (Asked y)) G (λ g. fact 𝓤 (Asked g))
    (λ g. Turns 𝓤 R X (λ r e. sep 𝓤 (given g r) (more r)) (λ r e. given y r))
ensures_more 𝓤 G R X Asked given more y =
    let Q : G → SProp 𝓤 = λ g. fact 𝓤 (Asked g) in
    let W : G → SProp 𝓤 = λ g. Turns 𝓤 R X (λ r e. sep 𝓤 (given g r) (more r)) (λ r e. given y r) in
    let kept : ent 𝓤 (emp 𝓤) (W y) = all_i 𝓤
    (λ (r : R). all 𝓤 (λ (e : X). wand 𝓤 (sep 𝓤 (given y r) (more r)) (given y r))) (λ r.
    all_i 𝓤 (λ (e : X). wand 𝓤 (sep 𝓤 (given y r) (more r)) (given y r)) (λ e.
    wand_i 𝓤 (emp 𝓤) (sep 𝓤 (given y r) (more r)) (given y r)
    (via 𝓤 (sep 𝓤 (given y r) (more r)) (snd∗ 𝓤 (emp 𝓤) (sep 𝓤 (given y r) (more r)))
    (fst∗ 𝓤 (given y r) (more r))))) in
    via 𝓤 (sep 𝓤 (Q y) (W y)) (via 𝓤 (sep 𝓤 (W y) (Q y))
    (via 𝓤 (sep 𝓤 (emp 𝓤) (Q y)) (emp∗ 𝓤 (Q y)) (mono_l 𝓤 (Q y) kept)) (comm∗ 𝓤 (W y) (Q y)))
    (ex_i 𝓤 (λ (g : G). sep 𝓤 (Q g) (W g)) y)
