-- How texts are stored, so that a proof can tell two of them apart.
use Rattle.std.specs.Prelude.{ℕ, List, refl}
use Rattle.std.specs.Coded.{Coded, code_by, coded_list, coded×, coded_ℕ}
use Rattle.glk_screen.specs.Texts.{FlatText}
use Rattle.glk_screen.specs.Wrapper.{FlatWrapper}

abbrev pub text_code : Coded FlatText
text_code =
    code_by (ℕ × List ℕ) (coded× coded_ℕ (coded_list coded_ℕ)) (λ t. (t.id, t.text))
    (λ p. record { id = p.0; text = p.1 }) (λ _. refl)

abbrev pub screen_code : Coded (List FlatText)
screen_code = coded_list text_code

abbrev pub wrapper_code : Coded FlatWrapper
wrapper_code =
    code_by (ℕ × (ℕ × List ℕ)) (coded× coded_ℕ (coded× coded_ℕ (coded_list coded_ℕ))) (λ w. (w.limit, (w.gone, w.row)))
    (λ p. record { limit = p.0; gone = p.1.0; row = p.1.1 }) (λ _. refl)
