-- An element's frame is read alike by every reader of elements: what stands in it, and where, is the same for all.
use Rattle.std.specs.Prelude.{◌≡◌, refl, Bool, true, false, ◌⊎◌, ℕ, zero, suc, ◌+◌, ◌-◌, ◌*◌, ◌≤◌, ◌<◌, eqb}
use Rattle.std.proofs.Common.{sym, ap, ap₂, ◌∙◌, inl, inr, arith}
use Rattle.std.proofs.lemmas.Bool.{lt-leb}
use Rattle.bits.specs.declared.Size.{Size}
use Rattle.bits.specs.Language.{Res, ok, no, pick, Bits, P, give, within, and_then, run, number, bits, bits_if, past_declared}
use Rattle.bits.specs.Laws.{saying, numbered}
use Rattle.bits.specs.Size.{size_from, variable_bits_max}
use Rattle.bits.specs.Steps.{no_ok, by_order, field_ok, field_no, give_ok, bind_ok, bind_is, bind_stops, within_is, within_stops}
use Rattle.bits.specs.Terms.{Says}
use Rattle.oamd.specs.declared.Kind.{Kind}
use Rattle.oamd.specs.Programme.{set?}
use Rattle.oamd.specs.Element.{kind, declared_length, size_length, head_length, back_to_id, framed}
use Rattle.demands.specs.Lemmas.Numbers.{size-says}

-- ---- how far the parts of a frame go

pub size-goes : (k value g : ℕ) (b : Bits) (at e o : ℕ) {z : Size} {to : ℕ} → run (size_from k value g) b at e o ≡ ok z to → to + 5 * g ≡ at + 5 * z.groups
unfolding size_from
size-goes zero value g b at e o {z} {to} h =
    bind_ok _ _ b at e o h λ read p hr h.
    bind_ok _ _ b p e o h λ more q hm h.
    let x = field_ok 4 number b at e o hr in
    let y = field_ok 1 number b p e o hm in
    let d = give_ok _ b q e o h in
    let n : suc g ≡ z.groups = ap (λ (s : Size). s.groups) d.0 in
    omega arith
size-goes (suc k) value g b at e o {z} {to} h =
    bind_ok _ _ b at e o h λ read p hr h.
    bind_ok _ _ b p e o h λ more q hm h.
    let x = field_ok 4 number b at e o hr in
    let y = field_ok 1 number b p e o hm in
    go read p (eqb more 0) q x.2 y.2 h (size-goes k ((value + read) * 16 + 16) (suc g) b q e o)
  where
    go : (read p : ℕ) (t : Bool) (q : ℕ) → p ≡ at + 4 → q ≡ p + 1
        → run (pick t (give (record { value = value + read; groups = suc g })) (size_from k ((value + read) * 16 + 16) (suc g))) b q e o ≡ ok z to
        → (run (size_from k ((value + read) * 16 + 16) (suc g)) b q e o ≡ ok z to → to + 5 * suc g ≡ q + 5 * z.groups)
        → to + 5 * g ≡ at + 5 * z.groups
    go read p true q i j h ih =
        let d = give_ok _ b q e o h in
        let n : suc g ≡ z.groups = ap (λ (s : Size). s.groups) d.0 in
        omega arith
    go read p false q i j h ih = let n = ih h in omega arith

pub alternate-goes : (alternate : ℕ) (b : Bits) (at e o : ℕ) {v to : ℕ} → run (bits_if (set? alternate) 4) b at e o ≡ ok v to
    → to + 1 ≡ at + head_length alternate
alternate-goes alternate b at e o {v} {to} h = go (set? alternate) h
  where
    go : (t : Bool) → run (bits_if t 4) b at e o ≡ ok v to → to + 1 ≡ at + pick t 5 1
    go true q = let n = field_ok 4 number b at e o q in omega arith
    go false q = let n = give_ok 0 b at e o q in omega arith

-- ---- the frame of the element at a place

-- the first bit behind the discard flag, and behind the element
abbrev pub body_at : ℕ → ℕ → Size → ℕ
body_at at alternate size = at + back_to_id alternate size

abbrev pub end_at : ℕ → Size → ℕ
end_at at size = at + (4 + size_length size) + declared_length size

-- it is whole: its kind and its size, and what each reader of elements makes of it
pub record Frame (alternate : ℕ) (b : Bits) (at e o : ℕ) : Type 1 where
  pub kind : Kind
  pub size : Size
  pub room : body_at at alternate size ≤ end_at at size
  pub fits : end_at at size ≤ e
  pub same : {A : Type 0} (f : Kind → Size → P A) → run (framed alternate f) b at e o
      ≡ and_then (run (f kind size) b (body_at at alternate size) (end_at at size) past_declared) (λ a mid. ok a (end_at at size))

-- or no reader of elements gets into it: it passes the end that it is held to, or its own
pub record Broken (alternate : ℕ) (b : Bits) (at e o : ℕ) : Type 1 where
  pub r : ℕ
  pub pl : ℕ
  pub m : ℕ
  pub why : (r ≡ o) ⊎ (r ≡ past_declared)
  pub same : {A : Type 0} (f : Kind → Size → P A) → run (framed alternate f) b at e o ≡ no r pl m

within-past : {A : Type 0} (n back : ℕ) (p : P A) (b : Bits) (at e o : ℕ) → e < at + n → run (within n back p) b at e o ≡ no o (at - back) (at + n - e)
unfolding run
within-past n back p b at e o l = rw (lt-leb (at + n) e l)

-- a reader that refuses with nothing of its own is refused for passing an end
ends : {A : Type 0} (p : P A) (b : Bits) (at e o over : ℕ) {r pl m : ℕ} → Says p (λ r. (r ≡ over) ⊎ (r ≡ past_declared)) → (o ≡ over) ⊎ (o ≡ past_declared)
    → run p b at e o ≡ no r pl m → (r ≡ over) ⊎ (r ≡ past_declared)
ends p b at e o over s w h = numbered p (λ r. (r ≡ over) ⊎ (r ≡ past_declared)) b at e o s w (inr refl) h

pub frame : (alternate : ℕ) (b : Bits) (at e o : ℕ) → Frame alternate b at e o ⊎ Broken alternate b at e o
unfolding framed Says
frame alternate b at e o = by-id (run (bits 4) b at e o) refl
  where
    by_flag : (id p : ℕ) → run (bits 4) b at e o ≡ ok id p → (size : Size) (start : ℕ) → run variable_bits_max b p e o ≡ ok size start
        → start + declared_length size ≤ e → (other q : ℕ) → run (bits_if (set? alternate) 4) b start (start + declared_length size) past_declared ≡ ok other q
        → (x : Res ℕ) → run (bits 1) b q (start + declared_length size) past_declared ≡ x → Frame alternate b at e o ⊎ Broken alternate b at e o
    by_flag id p hi size start hz l other q ho (no r pl m) hd = inr (record {
      r = r;
      pl = pl;
      m = m;
      why = inr (field_no 1 number b q (start + declared_length size) past_declared hd).0;
      same = λ f.
          bind_is _ _ b at e o hi ∙ bind_is _ _ b p e o hz
          ∙ within_stops _ _ _ b start e o l
          (bind_is _ _ b start (start + declared_length size) past_declared ho ∙ bind_stops _ _ b q (start + declared_length size) past_declared hd);
    })
    by_flag id p hi size start hz l other q ho (ok d body) hd =
        let i = field_ok 4 number b at e o hi in
        let z = size-goes 4 0 0 b p e o hz in
        let a = alternate-goes alternate b start (start + declared_length size) past_declared ho in
        let j = field_ok 1 number b q (start + declared_length size) past_declared hd in
        let x : start + declared_length size ≡ end_at at size = omega arith in
        let y : body ≡ body_at at alternate size = omega arith in
        inl (record {
          kind = kind id other;
          size = size;
          room = omega arith;
          fits = omega arith;
          same = λ f.
              bind_is _ _ b at e o hi ∙ bind_is _ _ b p e o hz ∙ within_is _ _ _ b start e o l
              ∙ ap (λ (r : _). and_then r (λ a mid. ok a (start + declared_length size)))
              (bind_is _ _ b start (start + declared_length size) past_declared ho ∙ bind_is _ _ b q (start + declared_length size) past_declared hd)
              ∙ ap₂ (λ (n m : ℕ). and_then (run (f (kind id other) size) b n m past_declared) (λ a mid. ok a m)) y x;
        })

    by_other : (id p : ℕ) → run (bits 4) b at e o ≡ ok id p → (size : Size) (start : ℕ) → run variable_bits_max b p e o ≡ ok size start
        → start + declared_length size ≤ e → (x : Res ℕ) → run (bits_if (set? alternate) 4) b start (start + declared_length size) past_declared ≡ x
        → Frame alternate b at e o ⊎ Broken alternate b at e o
    by_other id p hi size start hz l (no r pl m) ho = inr (record {
      r = r;
      pl = pl;
      m = m;
      why = ends _ b start (start + declared_length size) past_declared o (search (saying, tt)) (inr refl) ho;
      same = λ f.
          bind_is _ _ b at e o hi ∙ bind_is _ _ b p e o hz
          ∙ within_stops _ _ _ b start e o l (bind_stops _ _ b start (start + declared_length size) past_declared ho);
    })
    by_other id p hi size start hz l (ok other q) ho =
        by_flag id p hi size start hz l other q ho (run (bits 1) b q (start + declared_length size) past_declared) refl

    by_end : (id p : ℕ) → run (bits 4) b at e o ≡ ok id p → (size : Size) (start : ℕ) → run variable_bits_max b p e o ≡ ok size start
        → (start + declared_length size ≤ e) ⊎ (e < start + declared_length size) → Frame alternate b at e o ⊎ Broken alternate b at e o
    by_end id p hi size start hz (inl l) =
        by_other id p hi size start hz l (run (bits_if (set? alternate) 4) b start (start + declared_length size) past_declared) refl
    by_end id p hi size start hz (inr l) = inr (record {
      r = o;
      pl = start - size_length size;
      m = start + declared_length size - e;
      why = inl refl;
      same = λ f. bind_is _ _ b at e o hi ∙ bind_is _ _ b p e o hz ∙ within-past _ _ _ b start e o l;
    })

    by_size : (id p : ℕ) → run (bits 4) b at e o ≡ ok id p → (x : Res Size) → run variable_bits_max b p e o ≡ x
        → Frame alternate b at e o ⊎ Broken alternate b at e o
    by_size id p hi (no r pl m) hz = inr (record {
      r = r;
      pl = pl;
      m = m;
      why = ends _ b p e o o (size-says _ 4 0 0) (inl refl) hz;
      same = λ f. bind_is _ _ b at e o hi ∙ bind_stops _ _ b p e o hz;
    })
    by_size id p hi (ok size start) hz = by_end id p hi size start hz (by_order (start + declared_length size) e inl inr)

    by-id : (x : Res ℕ) → run (bits 4) b at e o ≡ x → Frame alternate b at e o ⊎ Broken alternate b at e o
    by-id (no r pl m) hi = inr (record {
      r = r;
      pl = pl;
      m = m;
      why = inl (field_no 4 number b at e o hi).0;
      same = λ f. bind_stops _ _ b at e o hi;
    })
    by-id (ok id p) hi = by_size id p hi (run variable_bits_max b p e o) refl

-- what some reader of elements accepts is whole
pub frame-of : {A : Type 0} (alternate : ℕ) (f : Kind → Size → P A) (b : Bits) (at e o : ℕ) {v : A} {to : ℕ} → run (framed alternate f) b at e o ≡ ok v to
    → Frame alternate b at e o
frame-of alternate f b at e o h = go (frame alternate b at e o)
  where
    go : Frame alternate b at e o ⊎ Broken alternate b at e o → Frame alternate b at e o
    go (inl x) = x
    go (inr x) = absurd (no_ok (sym (x.same f) ∙ h))
