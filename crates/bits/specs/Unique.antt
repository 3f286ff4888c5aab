-- What a promise to read says of the cursor, and that it leaves nothing open but the value behind a refusal.
use Rattle.std.specs.Prelude.{◌≡◌, refl, Bool, true, false, ℕ, eqb}
use Rattle.std.proofs.Common.{sym, ap, ◌∙◌, eqb-true}
use Rattle.std.proofs.lemmas.Bool.{eqb-false}
use Rattle.bits.specs.declared.Cur.{Cur}
use Rattle.bits.specs.declared.Limit.{Limit}
use Rattle.bits.specs.Language.{pick, ok, no, Bits, P, run}
use Rattle.bits.specs.Steps.{no_ok, value, next}
use Rattle.bits.specs.View.{over_of, go_on, Reads, Took, Gave, valued}

module _ {A : Type 0} {p : P A} {b : Bits} {c d : Cur} {l : Limit} {v : A} (r : Reads p b c l v d) (z : d.no ≡ 0) where
  same : ok v d.at.0 ≡ go_on c (λ at. run p b at l.end.0 (over_of l.inner))
  same = rw z at r.same

  -- nothing was refused before a cursor without a refusal
  pub begun : c.no ≡ 0
  begun = go (eqb c.no 0) refl same
    where
      go : (t : Bool) → eqb c.no 0 ≡ t → ok v d.at.0 ≡ pick t (run p b c.at.0 l.end.0 (over_of l.inner)) (no c.no c.at.0 c.missing) → c.no ≡ 0
      go true q e = eqb-true c.no 0 q
      go false q e = absurd (no_ok (sym e))

  -- and the reader gives the value
  pub ran : run p b c.at.0 l.end.0 (over_of l.inner) ≡ ok v d.at.0
  ran = sym (rw begun at same)

  -- a cursor that has no bits missing has none as long as nothing is refused
  pub clean : c.missing ≡ 0 → d.missing ≡ 0
  clean h = r.handed z ∙ h

abbrev standing : ℕ → ℕ → ℕ → Cur
standing n at m = record { v = 0; missing = m; at = record { 0 = at }; no = n }

-- cursors that agree in all but the value
agreeing : (d d' : Cur) → d.no ≡ d'.no → d.at.0 ≡ d'.at.0 → d.missing ≡ d'.missing → valued d 0 ≡ valued d' 0
agreeing d d' n a m =
    let e : standing d.no d.at.0 d.missing ≡ standing d'.no d'.at.0 d'.missing = rw (n, a, m) in
    e

-- two cursors to which a reader leads from c agree in refusal, place and missing bits; where nothing is refused, so do the values
pub one-reads : {A : Type 0} {p : P A} {b : Bits} {c d d' : Cur} {l : Limit} {v v' : A} → Reads p b c l v d → Reads p b c l v' d'
    → (valued d 0 ≡ valued d' 0) × (d.no ≡ 0 → v ≡ v')
one-reads {c = c} {d} {d'} {v = v} {v'} r r' = go (eqb d.no 0) refl (eqb d'.no 0) refl (r.same ∙ sym r'.same)
  where
    go : (s : Bool) → eqb d.no 0 ≡ s → (t : Bool) → eqb d'.no 0 ≡ t
        → pick s (ok v d.at.0) (no d.no d.at.0 d.missing) ≡ pick t (ok v' d'.at.0) (no d'.no d'.at.0 d'.missing)
        → (valued d 0 ≡ valued d' 0) × (d.no ≡ 0 → v ≡ v')
    go true q true q' e =
        let z = eqb-true d.no 0 q in
        let z' = eqb-true d'.no 0 q' in
        (agreeing d d' (z ∙ sym z') (next e) (r.handed z ∙ sym (r'.handed z')), λ z. value e)
    go true q false q' e = absurd (no_ok (sym e))
    go false q true q' e = absurd (no_ok e)
    go false q false q' e = (agreeing d d' (cc) (cc) (cc), λ z. absurd (eqb-false d.no 0 q z))

-- a cursor that holds the number that was read: behind a refusal only that number is open, and it is below n
pub one-took : {p : P ℕ} {n : ℕ} {b : Bits} {c d d' : Cur} {l : Limit} → Took p n b c l d → Took p n b c l d'
    → (valued d 0 ≡ valued d' 0) × (d.no ≡ 0 → d ≡ d')
one-took {d = d} {d'} t t' =
    let o = one-reads t.reads t'.reads in
    (o.0, λ z. ap (λ (x : Cur). valued x d.v) o.0 ∙ ap (λ (v : ℕ). valued d' v) (o.1 z))

-- a cursor beside the value that was read: it is one, refused or not, and behind a refusal only the value is open
pub one-gave : {A : Type 0} {p : P A} {b : Bits} {c d d' : Cur} {l : Limit} {v v' : A} → Gave p b c l v d → Gave p b c l v' d'
    → (d ≡ d') × (d.no ≡ 0 → v ≡ v')
one-gave {d = d} {d'} g g' =
    let o = one-reads g.reads g'.reads in
    (ap (λ (v : ℕ). valued d v) g.empty ∙ o.0 ∙ sym (ap (λ (v : ℕ). valued d' v) g'.empty), o.1)
