-- How a world is stored, so that a proof can tell two of them apart: each record as the tuple of its fields.
use Rattle.std.specs.Prelude.{◌≡◌, ℕ, ◌==◌, if◌then◌else◌, Bool, List, refl, Option}
use Rattle.std.proofs.Common.{◌⊎◌, inl, inr}
use Rattle.std.specs.Coded.{Coded, code_by, coded_list, coded_option, coded_bool, coded×, coded⊎, coded_ℕ}
use Rattle.glk_streams.specs.declared.kinds.FileForm.{FileForm}
use Rattle.glk_streams.specs.declared.kinds.FileForm.TheVariants as forms
use Rattle.glk_streams.specs.declared.kinds.StreamKind.{StreamKind}
use Rattle.glk_streams.specs.declared.kinds.StreamKind.TheVariants as kinds
use Rattle.glk_streams.specs.declared.kinds.Stream.{Stream}
use Rattle.glk_windows.specs.Windows.{FlatWindows}
use Rattle.glk_windows.specs.Stored.{windows_code}
use Rattle.glk_events.specs.declared.requests.Request.{Request}
use Rattle.glk_world.specs.declared.references.FileReference.{FileReference}
use Rattle.glk_world.specs.declared.grids.ShownGrid.{ShownGrid}
use Rattle.glk_screen.specs.Texts.{FlatText}
use Rattle.glk_screen.specs.Wrapper.{FlatWrapper}
use Rattle.glk_screen.specs.Stored.{screen_code, wrapper_code}
use Rattle.glk_world.specs.declared.views.View.{View}
use Rattle.glk_world.specs.declared.views.View.TheVariants as view
use Rattle.glk_world.specs.World.{WaitingCall, Scene, FlatWorld}

-- ---- streams

abbrev pub form_number : FileForm → ℕ
form_number forms.Latin = 0
form_number forms.Wide = 1
form_number forms.Utf8 = 2

abbrev pub form_from : ℕ → FileForm
form_from n = if n == 0 then forms.Latin else if n == 1 then forms.Wide else forms.Utf8

abbrev pub form_back : (form : FileForm) → form_from (form_number form) ≡ form
form_back forms.Latin = refl
form_back forms.Wide = refl
form_back forms.Utf8 = refl

abbrev pub form_code : Coded FileForm
form_code = code_by ℕ coded_ℕ form_number form_from form_back

abbrev pub Kind : Type 0
Kind = ℕ ⊎ ((ℕ × (ℕ × Bool)) ⊎ (List ℕ × (List ℕ × FileForm)))

abbrev pub kind_parts : StreamKind → Kind
kind_parts (kinds.Window win) = inl win
kind_parts (kinds.Memory at len wide) = inr (inl (at, (len, wide)))
kind_parts (kinds.File name content form) = inr (inr (name, (content, form)))

abbrev pub kind_from : Kind → StreamKind
kind_from (inl win) = kinds.Window win
kind_from (inr (inl (at, (len, wide)))) = kinds.Memory at len wide
kind_from (inr (inr (name, (content, form)))) = kinds.File name content form

abbrev pub kind_back : (kind : StreamKind) → kind_from (kind_parts kind) ≡ kind
kind_back (kinds.Window win) = refl
kind_back (kinds.Memory at len wide) = refl
kind_back (kinds.File name content form) = refl

abbrev pub kind_code : Coded StreamKind
kind_code =
    code_by Kind (coded⊎ coded_ℕ (coded⊎ (coded× coded_ℕ (coded× coded_ℕ coded_bool))
    (coded× (coded_list coded_ℕ) (coded× (coded_list coded_ℕ) form_code)))) kind_parts kind_from kind_back

abbrev pub stream_code : Coded Stream
stream_code =
    code_by (ℕ × (StreamKind × (ℕ × (ℕ × (ℕ × (ℕ × (ℕ × ℕ)))))))
    (coded× coded_ℕ (coded× kind_code
    (coded× coded_ℕ (coded× coded_ℕ (coded× coded_ℕ (coded× coded_ℕ (coded× coded_ℕ coded_ℕ)))))))
    (λ s. (s.id, (s.kind, (s.mode, (s.rock, (s.position, (s.highest, (s.read, s.written))))))))
    (λ p. record {
      id = p.0;
      kind = p.1.0;
      mode = p.1.1.0;
      rock = p.1.1.1.0;
      position = p.1.1.1.1.0;
      highest = p.1.1.1.1.1.0;
      read = p.1.1.1.1.1.1.0;
      written = p.1.1.1.1.1.1.1;
    }) (λ _. refl)

-- ---- grids as shown, file references, requests, calls

abbrev pub shown_code : Coded ShownGrid
shown_code =
    code_by (ℕ × List (List ℕ)) (coded× coded_ℕ (coded_list (coded_list coded_ℕ))) (λ g. (g.id, g.rows))
    (λ p. record { id = p.0; rows = p.1 }) (λ _. refl)

abbrev pub reference_code : Coded FileReference
reference_code =
    code_by (ℕ × (List ℕ × (ℕ × ℕ))) (coded× coded_ℕ (coded× (coded_list coded_ℕ) (coded× coded_ℕ coded_ℕ)))
    (λ r. (r.id, (r.base, (r.usage, r.rock))))
    (λ p. record { id = p.0; base = p.1.0; usage = p.1.1.0; rock = p.1.1.1 }) (λ _. refl)

abbrev pub request_code : Coded Request
request_code =
    code_by (ℕ × (Bool × (Bool × (ℕ × ℕ))))
    (coded× coded_ℕ (coded× coded_bool (coded× coded_bool (coded× coded_ℕ coded_ℕ))))
    (λ r. (r.win, (r.line, (r.wide, (r.buf, r.max)))))
    (λ p. record { win = p.0; line = p.1.0; wide = p.1.1.0; buf = p.1.1.1.0; max = p.1.1.1.1 }) (λ _. refl)

abbrev pub call_code : Coded WaitingCall
call_code =
    code_by (ℕ × List ℕ) (coded× coded_ℕ (coded_list coded_ℕ)) (λ c. (c.selector, c.arguments))
    (λ p. record { selector = p.0; arguments = p.1 }) (λ _. refl)

-- ---- the world

abbrev pub view_number : View → ℕ
view_number view.Rows = 0
view_number view.Plain = 1
view_number view.Screen = 2
view_number view.WrappedRows = 3
view_number view.WrappedPlain = 4

abbrev pub view_from : ℕ → View
view_from n =
    if n == 0 then view.Rows else if n == 1 then view.Plain else if n == 2 then view.Screen else
    if n == 3 then view.WrappedRows else view.WrappedPlain

abbrev pub view_back : (v : View) → view_from (view_number v) ≡ v
view_back view.Rows = refl
view_back view.Plain = refl
view_back view.Screen = refl
view_back view.WrappedRows = refl
view_back view.WrappedPlain = refl

abbrev pub view_code : Coded View
view_code = code_by ℕ coded_ℕ view_number view_from view_back

abbrev pub scene_code : Coded Scene
scene_code =
    code_by (FlatWindows × (View × (List ShownGrid ×
    (List FlatText × (Option (List ℕ) ×
    (List Stream × (List FileReference × (List Request × (ℕ × (ℕ × (FlatWrapper × (Bool × Option WaitingCall))))))))))))
    (coded× windows_code (coded× view_code
    (coded× (coded_list shown_code)
    (coded× screen_code (coded× (coded_option (coded_list coded_ℕ))
    (coded× (coded_list stream_code)
    (coded× (coded_list reference_code)
    (coded× (coded_list request_code)
    (coded× coded_ℕ (coded× coded_ℕ (coded× wrapper_code (coded× coded_bool (coded_option call_code)))))))))))))
    (λ w. (
      w.windows,
      (
        w.view,
        (
          w.shown,
          (
            w.screen,
            (
              w.last_screen,
              (
                w.streams,
                (w.references, (w.requests, (w.current, (w.next_id, (w.row, (w.fresh, w.waiting)))))),
              ),
            ),
          ),
        ),
      ),
    ))
    (λ p. record {
      windows = p.0;
      view = p.1.0;
      shown = p.1.1.0;
      screen = p.1.1.1.0;
      last_screen = p.1.1.1.1.0;
      streams = p.1.1.1.1.1.0;
      references = p.1.1.1.1.1.1.0;
      requests = p.1.1.1.1.1.1.1.0;
      current = p.1.1.1.1.1.1.1.1.0;
      next_id = p.1.1.1.1.1.1.1.1.1.0;
      row = p.1.1.1.1.1.1.1.1.1.1.0;
      fresh = p.1.1.1.1.1.1.1.1.1.1.1.0;
      waiting = p.1.1.1.1.1.1.1.1.1.1.1.1;
    }) (λ _. refl)

abbrev pub world_code : Coded FlatWorld
world_code =
    code_by (Scene × List ℕ) (coded× scene_code (coded_list coded_ℕ)) (λ w. (w.scene, w.text))
    (λ p. record { scene = p.0; text = p.1 }) (λ _. refl)
