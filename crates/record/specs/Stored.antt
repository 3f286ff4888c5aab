-- Laws of bytes stored one after the other.
use Rattle.std.specs.Prelude.{◌≡◌, refl, List, [], ◌∷◌, ◌++◌, ℕ, suc, ◌+◌, ◌≤◌, length, get_or, set, drop}
use Rattle.std.proofs.Common.{sym, ap, ◌∙◌, append_assoc, append-nil, arith, suc-add, zero-add, length-append, length-set, drop-cons}
use Rattle.std.proofs.lemmas.List.{set_at}
use Rattle.oamd.specs.Record.{onto}
use Rattle.record.specs.Bytes.{set_from}

pub length-set_from : (at k : ℕ) (xs s : List ℕ) → length (set_from at k xs s) ≡ length s
length-set_from at k [] s = refl
length-set_from at k (x ∷ xs) s = length-set_from at (k + 1) xs (set s (at + k) x) ∙ length-set s (at + k) x

-- bytes stored behind a front leave it
set-behind : (front ys : List ℕ) (k x : ℕ) → set (front ++ ys) (length front + k) x ≡ front ++ set ys k x
set-behind [] ys k x = ap (λ (n : ℕ). set ys n x) (zero-add k)
set-behind (y ∷ front) ys k x =
    ap (λ (n : ℕ). set (y ∷ (front ++ ys)) n x) (suc-add (length front) k) ∙ ap (λ (t : List ℕ). y ∷ t) (set-behind front ys k x)

pub set_from-behind : (xs front ys : List ℕ) (at k : ℕ) → at ≡ length front → set_from at k xs (front ++ ys) ≡ front ++ set_from 0 k xs ys
set_from-behind [] front ys at k e = refl
set_from-behind (x ∷ xs) front ys at k e =
    ap (λ (n : ℕ). set_from at (k + 1) xs (set (front ++ ys) (n + k) x)) e
    ∙ ap (set_from at (k + 1) xs) (set-behind front ys k x)
    ∙ set_from-behind xs front (set ys k x) at (k + 1) e
    ∙ ap (λ (n : ℕ). front ++ set_from 0 (k + 1) xs (set ys n x)) (sym (zero-add k))

-- what is stored where the front ends becomes part of the front
pub seam : (xs front s : List ℕ) (at k : ℕ) → at + k ≡ length front → at + k + length xs ≤ length s → set_from at k xs (onto front s) ≡ onto (front ++ xs) s
unfolding onto
seam [] front s at k e h = rw append-nil
seam (x ∷ xs) front s at k e h =
    let d : drop (length front) s ≡ get_or s (length front) 0 ∷ drop (suc (length front)) s = drop-cons s (length front) 0 (omega arith) in
    let n : length (front ++ (x ∷ [])) ≡ suc (length front) = length-append front (x ∷ []) ∙ omega arith in
    ap (λ (t : List ℕ). set_from at (k + 1) xs (set (front ++ t) (at + k) x)) d
    ∙ ap (set_from at (k + 1) xs)
    (set_at front _ _ x (at + k) (sym e) ∙ sym (append_assoc front (x ∷ []) _) ∙ ap (λ (m : ℕ). (front ++ (x ∷ [])) ++ drop m s) (sym n))
    ∙ seam xs (front ++ (x ∷ [])) s at (k + 1) (omega arith) (omega arith)
    ∙ ap (λ (t : List ℕ). t ++ drop (length t) s) (append_assoc front (x ∷ []) xs)
