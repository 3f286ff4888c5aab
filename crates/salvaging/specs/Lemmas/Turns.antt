-- One element of a pass.
use Rattle.std.specs.Prelude.{◌≡◌, refl, Bool, true, false, ◌⊎◌, ℕ, suc, eqb}
use Rattle.std.proofs.Common.{sym, ◌∙◌, inl, inr, eqb-true}
use Rattle.bits.specs.Language.{Res, ok, no, pick, Bits, give, run, past_payload, past_declared}
use Rattle.bits.specs.Steps.{no_ok, give_no}
use Rattle.oamd.specs.declared.Frame.{Frame}
use Rattle.oamd.specs.declared.Programme.{Programme}
use Rattle.oamd.specs.Element.{State, frame, oa_element_md}
use Rattle.oamd.specs.Sift.{Sifting, stopped, dropping, judged, behind, gone_at, sift}
use Rattle.demands.specs.Lemmas.Frame as Frames
use Rattle.demands.specs.Lemmas.Passing.{InElement, in_field, by_end, in_body, element-refused}

-- a frame is refused only for passing the end
frame_refused : (alternate : ℕ) (b : Bits) (at e o : ℕ) {r pl m : ℕ} → run (frame alternate) b at e o ≡ no r pl m → r ≡ o
frame_refused alternate b at e o {r} {pl} {m} h = go (element-refused alternate _ b at e o h)
  where
    go : InElement {A = Frame} alternate (λ k size. give (record { kind = k; size = size })) b at e o r pl m → r ≡ o
    go (in_field x) = x.over
    go (by_end size to z l i j) = i
    go (in_body size to k mid z c x) = absurd (give_no _ b mid _ past_declared x)

-- and it refuses the element alike
frame_stops : (p : Programme) (alternate : ℕ) (st : State) (b : Bits) (at e o : ℕ) {r pl m : ℕ} → run (frame alternate) b at e o ≡ no r pl m
    → run (oa_element_md p alternate st) b at e o ≡ no r pl m
unfolding oa_element_md run
frame_stops p alternate st b at e o {r} {pl} {m} h = go (Frames.frame alternate b at e o)
  where
    go : Frames.Frame alternate b at e o ⊎ Frames.Broken alternate b at e o → run (oa_element_md p alternate st) b at e o ≡ no r pl m
    go (inl x) = absurd (no_ok (sym h ∙ x.same _))
    go (inr x) = let z = sym (x.same _) ∙ h in x.same _ ∙ cc

-- It is read; or it passes the payload's end, and ends the pass; or it is refused for anything else and dropped, and its frame is whole.
pub sift_next : (p : Programme) (alternate n : ℕ) (st : State) (b : Bits) (at e : ℕ) (Q : Sifting → Type 0)
    → ((st' : State) (to : ℕ) → run (oa_element_md p alternate st) b at e past_payload ≡ ok st' to → Q (sift p alternate n st' b to e))
    → ((r pl m : ℕ) → run (oa_element_md p alternate st) b at e past_payload ≡ no r pl m → r ≡ past_payload → Q (stopped r pl m))
    → ((r pl m : ℕ) (f : Frame) (to : ℕ) → run (oa_element_md p alternate st) b at e past_payload ≡ no r pl m
    → run (frame alternate) b at e past_payload ≡ ok f to → Q (dropping (gone_at b at to r pl) (sift p alternate n st b to e)))
    → Q (sift p alternate (suc n) st b at e)
unfolding sift
sift_next p alternate n st b at e Q kept ended gone = by-element (run (oa_element_md p alternate st) b at e past_payload) refl
  where
    beyond : ℕ → ℕ → ℕ → Sifting
    beyond r pl to = dropping (gone_at b at to r pl) (sift p alternate n st b to e)

    by-frame : (r pl m : ℕ) → run (oa_element_md p alternate st) b at e past_payload ≡ no r pl m → (x : Res Frame) → run (frame alternate) b at e past_payload ≡ x
        → Q (behind x (beyond r pl))
    by-frame r pl m h (ok f to) w = gone r pl m f to h w
    by-frame r pl m h (no r' pl' m') w = ended r' pl' m' (frame_stops p alternate st b at e past_payload w) (frame_refused alternate b at e past_payload w)

    by_number : (r pl m : ℕ) → run (oa_element_md p alternate st) b at e past_payload ≡ no r pl m → (t : Bool) → eqb r past_payload ≡ t
        → Q (pick t (stopped r pl m) (behind (run (frame alternate) b at e past_payload) (beyond r pl)))
    by_number r pl m h true q = ended r pl m h (eqb-true r past_payload q)
    by_number r pl m h false q = by-frame r pl m h (run (frame alternate) b at e past_payload) refl

    by-element : (x : Res State) → run (oa_element_md p alternate st) b at e past_payload ≡ x
        → Q (judged x (λ st' to. sift p alternate n st' b to e) (λ r pl. behind (run (frame alternate) b at e past_payload) (beyond r pl)))
    by-element (ok st' to) h = kept st' to h
    by-element (no r pl m) h = by_number r pl m h (eqb r past_payload) refl
