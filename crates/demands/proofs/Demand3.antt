-- Demand 3 in one statement: more data never turns one set of tables into another.
use Rattle.std.specs.Prelude.{◌≡◌, refl, List, ◌∷◌, ◌++◌, ◌⊎◌, ℕ, ◌≤◌, ◌<◌, length, take}
use Rattle.std.proofs.Common.{sym, ap, ◌∙◌, subst, inl, inr, arith, length-append}
use Rattle.std.proofs.Math.Option.{some}
use Rattle.bits.specs.declared.Refusal.TheVariants.{EndsEarly}
use Rattle.bits.specs.Refusals.{number_of}
use Rattle.bits.specs.Steps.{by_order}
use Rattle.oamd.specs.declared.Kind.TheVariants.{Unknown}
use Rattle.oamd.specs.Tables.{most_bytes, most_elements}
use Rattle.oamd.specs.Payload.{Header}
use Rattle.oamd.specs.Answer.{Outcome, refused, reading}
use Rattle.demands.specs.Skeleton.{Body, known, taken_out, skeleton, tables_in, SameTables}
use Rattle.demands.specs.Assembly.{Element, all_bodies, payload_of, PutTogether}
use Rattle.demands.specs.Appended.{appended}
use Rattle.demands.specs.Cut.{cut_short}
use Rattle.demands.proofs.Unknown.{unknown-elements}
use Rattle.demands.specs.Lemmas.Reading.{reading_long, refusal-of}
use Rattle.demands.proofs.Lemmas.Skeletons.{known-without}
use Rattle.demands.specs.Lemmas.Assembled.{outline_is, outline-together, bodies-append}
use Rattle.demands.specs.Promises.{Carries, Change, append, cut, add, remove, alter, After, same, ends-early, too_long}

-- up to the length limit, or beyond it
up_to-limit : (frame : ℕ) (s s' buffer trim : List ℕ) → (length s' ≤ most_bytes → SameTables (reading frame s' buffer trim) (reading frame s buffer trim)) → After frame s s' buffer trim
up_to-limit frame s s' buffer trim f = by_order (length s') most_bytes (λ short. same (f short)) (λ long. too_long long (reading_long frame s' buffer trim long))

same_known : (frame : ℕ) (s s' buffer trim : List ℕ) (h : Header) (xs ys : List Body) → (reading frame s buffer trim).answer.refusal ≡ 0 → Carries s h xs → Carries s' h ys
    → known ys ≡ known xs → After frame s s' buffer trim
unfolding skeleton
same_known frame s s' buffer trim h xs ys accepted c c' e =
    let bones : skeleton s' ≡ skeleton s =
    ap taken_out c' ∙ ap (λ (l : List Body). some (record { header = h; elements = l })) e ∙ sym (ap taken_out c) in
    up_to-limit frame s s' buffer trim (unknown-elements frame s s' buffer trim accepted bones)

-- Whatever is changed of an accepted payload, nothing else comes of it.
pub demand_3 : (frame : ℕ) (s s' buffer trim : List ℕ) → (reading frame s buffer trim).answer.refusal ≡ 0 → Change s s' → After frame s s' buffer trim
demand_3 frame s s' buffer trim accepted change = go change
  where
    is : {t : List ℕ} → s' ≡ t → reading frame s' buffer trim ≡ reading frame t buffer trim
    is e = ap (λ (x : List ℕ). reading frame x buffer trim) e

    by-cut : (n : ℕ) → s' ≡ take n s
        → (reading frame (take n s) buffer trim ≡ reading frame s buffer trim)
        ⊎ ((place missing : ℕ) × (1 ≤ missing) × (reading frame (take n s) buffer trim ≡ refused buffer trim (number_of EndsEarly) place missing))
        → After frame s s' buffer trim
    by-cut n e (inl x) = same (ap tables_in (is e ∙ x))
    by-cut n e (inr x) = ends-early n x.0 x.1 e x.2 (is e ∙ x.3)

    go : Change s s' → After frame s s' buffer trim
    go (append t e) = up_to-limit frame s s' buffer trim λ short.
        ap tables_in (is e ∙ appended frame s t buffer trim accepted (subst (λ (x : List ℕ). length x ≤ most_bytes) e short))
    go (cut n e) = by-cut n e (cut_short frame s buffer trim n accepted)
    go (add h before behind u unknown c c') = same_known frame s s' buffer trim h _ _ accepted c c' (known-without before behind u unknown)
    go (remove h before behind u unknown c c') = same_known frame s s' buffer trim h _ _ accepted c c' (sym (known-without before behind u unknown))
    go (alter h before behind u u' unknown unknown' c c') =
        same_known frame s s' buffer trim h _ _ accepted c c' (known-without before behind u' unknown' ∙ sym (known-without before behind u unknown))

-- So where both are accepted, before the change and behind it, their tables and buffers are the same.
pub never-another : (frame : ℕ) (s s' buffer trim : List ℕ) → (reading frame s buffer trim).answer.refusal ≡ 0 → Change s s' → (reading frame s' buffer trim).answer.refusal ≡ 0
    → SameTables (reading frame s' buffer trim) (reading frame s buffer trim)
never-another frame s s' buffer trim accepted change accepted' = go (demand_3 frame s s' buffer trim accepted change)
  where
    go : After frame s s' buffer trim → SameTables (reading frame s' buffer trim) (reading frame s buffer trim)
    go (same x) = x
    go (ends-early n place missing e least x) = absurd (omega (arith, refusal-of x))
    go (too_long l x) = absurd (omega (arith, refusal-of x))

-- Any number of changes, one behind the other, what comes of each accepted
pub data Changes (frame : ℕ) (buffer trim s : List ℕ) : List ℕ → Type 0 where
  none : Changes frame buffer trim s s
  another : {m s' : List ℕ} → Changes frame buffer trim s m → Change m s' → (reading frame s' buffer trim).answer.refusal ≡ 0 → Changes frame buffer trim s s'

-- turn no tables into others.
pub however-many : (frame : ℕ) (s s' buffer trim : List ℕ) → (reading frame s buffer trim).answer.refusal ≡ 0 → Changes frame buffer trim s s'
    → SameTables (reading frame s' buffer trim) (reading frame s buffer trim)
however-many frame s s' buffer trim accepted changes = go changes
  where
    go : {t : List ℕ} → Changes frame buffer trim s t → SameTables (reading frame t buffer trim) (reading frame s buffer trim)
    go none = refl
    go {t} (another {m} before change accepted') =
        let tables = go before in
        never-another frame m t buffer trim (ap (λ (o : Outcome). o.answer.refusal) tables ∙ accepted) change accepted' ∙ tables

-- There are such changes: an unknown element can be put anywhere among the elements of a payload that is put together, as every accepted one is
-- (`put-together`), where there are fewer than 46.
pub put_in : (s : List ℕ) (x : PutTogether s) (before behind : List (Element x.head.is.alternate)) (u : Element x.head.is.alternate)
    → x.elements ≡ before ++ behind → u.is.kind ≡ Unknown → length x.elements < most_elements
    → Change s (payload_of x.head (before ++ (u ∷ behind)) x.padding)
put_in s x before behind u parted unknown few =
    add x.head.is (all_bodies before) (all_bodies behind) u.is unknown
    (outline-together s x ∙ ap (λ (l : List Body). some (record { header = x.head.is; elements = l })) (ap all_bodies parted ∙ bodies-append before behind))
    (outline_is x.head (before ++ (u ∷ behind)) x.padding (omega (arith, ap length parted, length-append before behind, length-append before (u ∷ behind)))
    x.binary
    ∙ ap (λ (l : List Body). some (record { header = x.head.is; elements = l })) (bodies-append before (u ∷ behind)))
