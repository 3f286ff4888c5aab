-- The pass that drops what is refused: one element, all of them, and what is answered. Assumes nothing.
use mathlib.Core.Path.{◌≡◌, refl, sym, ap, ◌∙◌}
use mathlib.Core.Bool.{Bool, true, false}
use mathlib.Core.List.{List, [], ◌++◌, append_assoc, append-nil}
use mathlib.Core.Logic.{◌⊎◌, inl, inr}
use Prim.Native.Nat.{ℕ, suc, ◌+◌, ◌-◌, ◌*◌, ◌≤◌, ◌<◌}
use native.Mathlib.Omega.{arith}
use native.Mathlib.Nat.{sub-zero}
use lib.Dec.{eqb}
use lib.ListN.{length, set, replicate, length-append}
use borrow.Author.Tests.{le-leb, lt-leb, eq-eqb, ne_eqb}
use Rattle.std.specs.Prelude.{Option, Some, None, Ok, Err}
use Rattle.bits.specs.declared.Cur.{Cur}
use Rattle.bits.specs.declared.Limit.{Limit}
use Rattle.bits.specs.declared.Refusal.TheVariants.{TooLong}
use Rattle.bits.specs.declared.Step.{Step}
use Rattle.bits.specs.Language.{Res, ok, no, pick, Bits, bits, bit, slice, number, P, run, and_then, past_payload}
use Rattle.bits.specs.Refusals.{number_of}
use Rattle.bits.specs.Steps.{no_ok, value, bind_ok, field_ok}
use Rattle.bits.specs.View.{go_on, Reads}
use Rattle.bits.specs.Unique.{begun, ran}
use Rattle.bits.proofs.Sticky.{bind}
use Rattle.syntax.proofs.Filled.{filled_next}
use Rattle.oamd.specs.declared.Frame.{Frame}
use Rattle.oamd.specs.declared.Gone.{Gone}
use Rattle.oamd.specs.Tables.{most_bytes, most_blocks, most_elements, most_trim, scratch_bytes}
use Rattle.oamd.specs.Element as element
use Rattle.oamd.specs.Element.{Known, nothing, framed, frame}
use Rattle.oamd.specs.Payload.{oa_element_count, header}
use Rattle.oamd.specs.Sift.{Sifting, stopped, dropping, behind, gone_at, sift, Sieve, sieve}
use Rattle.reader.specs.declared.Header.{Header}
use Rattle.reader.specs.declared.Scope.{Scope}
use Rattle.reader.specs.declared.State.{State}
use Rattle.reader.specs.declared.Turn.{Turn}
use Rattle.reader.specs.Layout.{no_trim_bytes}
use Rattle.reader.specs.Sifts.{no_gone, filled, unsifted, refusal_of, sifted_by, sifted_from, sifted}
use Rattle.reader.specs.Steps.{Buffers, lent, nothing_read, Sized, Holding, state_of, OneRead, Headed, scope_of, whole_of}
use Rattle.reader.specs.Turns.{unless_refused, prepend, drops_of, Turning, RefusedAt, Dropped, Turned, TurnRead, Counted}
use Rattle.reader.proofs.ElementLoop.{nothing-held}

-- ---- an element that is refused

-- what a reader answers on a payload, from a cursor that carries no refusal
told : {A : Type 0} {p : P A} {b : Bits} {c d : Cur} {l : Limit} {v : A} → c.no ≡ 0 → l.inner ≡ false → Reads p b c l v d
    → run p b c.at.0 l.end.0 past_payload ≡ go_on d (λ at. ok v at)
told z w r = sym (rw (z, w) at r.same)

-- the first four bits of an element whose frame is whole are its id
id-read : (alternate : ℕ) (b : Bits) (at e : ℕ) (d : Cur) {f : Frame} {to v : ℕ} → run (frame alternate) b at e past_payload ≡ ok f to
    → run (bits 4) b at e past_payload ≡ go_on d (λ at. ok v at) → number (slice b at 4) ≡ v
unfolding framed
id-read alternate b at e d {v = v} h x =
    bind_ok _ _ b at e past_payload h (λ a mid g k. (field_ok 4 number b at e past_payload g).1 ∙ go (eqb d.no 0) (sym g ∙ x))
  where
    go : {a mid : ℕ} (t : Bool) → ok a mid ≡ pick t (ok v d.at.0) (no d.no d.at.0 d.missing) → a ≡ v
    go true q = value q
    go false q = absurd (no_ok (sym q))

module _ {alternate : ℕ} {st : State} {b : Bits} {c d : Cur} {l : Limit} (asked : RefusedAt l c d) where
  -- it passes the payload's end
  pub ends-pass : d.no ≡ past_payload → Dropped alternate st b c l d (record { state = st; cur = d; gone = None })
  ends-pass e = record { state = refl; same = λ k. rw (eq-eqb _ _ e, ne_eqb d.no 0 asked.told) }

  -- it is refused for anything else
  pub goes : {f : Frame} {v : ℕ} {id cur : Cur} → (d.no ≡ past_payload → ⊥) → Reads (bits 4) b c l v id → Reads (frame alternate) b c l f cur
      → Dropped alternate st b c l d
      (record { state = st; cur = cur; gone = Some (record { from = c.at; to = cur.at; place = d.at; id = v; refusal = d.no }) })
  goes {f} {v} {id} {cur} h x y =
      record { state = refl; same = λ k. rw (ne_eqb d.no past_payload h) (go k (eqb cur.no 0) (told asked.clean asked.whole y)) }
    where
      go : (k : ℕ → Sifting) (t : Bool)
          → run (frame alternate) b c.at.0 l.end.0 past_payload ≡ pick t (ok f cur.at.0) (no cur.no cur.at.0 cur.missing)
          → behind (run (frame alternate) b c.at.0 l.end.0 past_payload) (λ to. dropping (gone_at b c.at.0 to d.no d.at.0) (k to))
          ≡ pick t (dropping (record { from = c.at; to = cur.at; place = d.at; id = v; refusal = d.no }) (k cur.at.0))
          (stopped cur.no cur.at.0 cur.missing)
      go k true e = rw (e, id-read alternate b c.at.0 l.end.0 id e (told asked.clean asked.whole x))
      go k false e = rw e

-- ---- an element

module _ {scope : Scope} {st : State} {b : Bits} {c : Cur} {l : Limit} {held held' : Buffers} {step : Step State} (asked : Turning l c scope st held)
    (read : OneRead scope st b c l held step held') where
  pub kept-turn : step.cur.no ≡ 0 → TurnRead scope st b c l held (record { state = step.value; cur = step.cur; gone = None }) held'
  unfolding sift
  kept-turn z = record {
    sized = read.sized;
    few = read.few;
    next = read.next;
    went = λ q known t sc h.
        let u = read.went q known t sc (λ y. h) in
        let e = told asked.clean asked.whole u.reads in
        record { then = u.known; same = λ n. rw (rw z at e, z); holding = u.holding z };
  }

  pub dropped-turn : {r : Turn} → (step.cur.no ≡ 0 → ⊥) → Dropped scope.alternate st b c l step.cur r → TurnRead scope st b c l held r held
  unfolding sift
  dropped-turn {r} z x = record {
    sized = asked.underway.ready.sized;
    few = rw x.state asked.underway.blocks;
    next = rw x.state (omega arith);
    went = λ q known t sc h.
        let u = read.went q known t sc (λ y. h) in
        let e = told asked.clean asked.whole u.reads in
        record {
          then = known;
          same = λ n. rw (rw (ne_eqb step.cur.no 0 z) at e, x.state)
              (x.same (λ to. sift q scope.alternate n (state_of known st.unknown) b to l.end.0));
          holding = rw x.state h;
        };
  }

-- ---- all elements

unless-clean : (d : Cur) (x : Sifting) → d.no ≡ 0 → unless_refused d x ≡ x
unless-clean d x z = rw z

none-left : {A : Type 0} (o : Option A) → ((a : A) → o ≡ Some a → ⊥) → o ≡ None
none-left None h = refl
none-left (Some a) h = absurd (h a refl)

-- what the loop makes of an element: it is stored where it is dropped
abbrev pub Stored : Turn → List Gone → ℕ → List Gone → ℕ → Type 0
Stored r gone drops gone' drops' =
    ((one : Gone) × (r.gone ≡ Some one) × (gone' ≡ set gone drops one) × (drops' ≡ drops + 1)) ⊎ (((one : Gone) → r.gone ≡ Some one → ⊥) × (gone' ≡ gone) × (drops' ≡ drops))

-- the elements behind a header, before the one at a bit, where st has been read
abbrev rest : List ℕ → Step Header → ℕ → element.State → ℕ → Sifting
rest s h n st at = sift h.value.programme h.value.alternate n st (bit s) at (8 * length s)

-- all of them
abbrev all : List ℕ → Step Header → Cur → Sifting
all s h count = rest s h count.v (state_of nothing 0) count.at.0

module _ (s : List ℕ) (h : Step Header) (count : Cur) (t : List ℕ) where
  -- before element i: list is dropped of those before it
  pub record Passing (i : ℕ) (st : State) (gone : List Gone) (drops : ℕ) (cur : Cur) (held : Buffers) : Type 0 where
    pub within : i ≤ count.v
    pub sized : Sized h.value.programme.objects held
    pub blocks : st.timing.blocks ≤ most_blocks
    pub unknown : st.unknown ≤ i
    pub clean : cur.no ≡ 0
    pub list : List Gone
    pub long : drops ≡ length list
    pub few : drops ≤ i
    pub holds : gone ≡ filled list
    pub known : Known
    pub holding : Holding h.value.programme.objects known t st held
    pub same : all s h count ≡ prepend list (rest s h (count.v - i) (state_of known st.unknown) cur.at.0)

module _ {s : List ℕ} {l : Limit} {h : Step Header} {count : Cur} (asked : Counted s l h count) where
  pub pass_start : {st : State} {gone : List Gone} {t table : List ℕ} → st ≡ nothing_read → gone ≡ replicate most_elements no_gone → length t ≡ scratch_bytes
      → table ≡ no_trim_bytes → length table ≡ most_trim → Passing s h count t 0 st gone 0 count (lent t table)
  pass_start e g room empty size =
      rw (e, g) (record {
        within = omega arith;
        sized = record { out = record { many = asked.headed.head.few; fits = omega (arith, asked.headed.head.few, room) }; table = size };
        blocks = omega arith;
        unknown = omega arith;
        clean = asked.clean;
        list = [];
        long = refl;
        few = omega arith;
        holds = refl;
        known = nothing;
        holding = nothing-held h.value.programme.objects asked.headed.head.few empty;
        same = rw (sub-zero count.v);
      })

  module _ {t : List ℕ} {i : ℕ} {st : State} {gone : List Gone} {drops : ℕ} {cur : Cur} {held : Buffers} (x : Passing s h count t i st gone drops cur held) where
    module _ (less : i < count.v) {scope : Scope} (es : scope ≡ scope_of h.value) where
      pub pass-asks : Turning l cur scope st held
      pass-asks = rw (es, asked.whole) (record {
        whole = refl;
        clean = x.clean;
        underway = record {
          ready = record { objects = asked.headed.head.few; alternate = asked.headed.head.bit; sized = x.sized };
          blocks = x.blocks;
          unknown = omega (arith, x.unknown, asked.counts.small);
        };
      })

      module _ {r : Turn} {held' : Buffers} (read : TurnRead scope st (bit s) cur l held r held') where
        turn : TurnRead (scope_of h.value) st (bit s) cur (whole_of s) held r held'
        turn = rw (es, asked.whole) at read

        turned : Turned (scope_of h.value) h.value.programme x.known st (bit s) cur (whole_of s) t r held'
        turned = turn.went h.value.programme x.known t (refl, refl) x.holding

        goes_on : all s h count
            ≡ prepend x.list (unless_refused r.cur (prepend (drops_of r)
            (rest s h (count.v - (i + 1)) (state_of turned.then r.state.unknown) r.cur.at.0)))
        goes_on =
            let e : count.v - i ≡ suc (count.v - (i + 1)) = omega arith in
            x.same ∙ rw e (ap (prepend x.list) (turned.same (count.v - (i + 1))))

        -- a refusal ends the pass
        pub pass_stops : (r.cur.no ≡ 0 → ⊥) → (all s h count).last ≡ no r.cur.no r.cur.at.0 r.cur.missing
        pass_stops z = rw (goes_on, ne_eqb r.cur.no 0 z)

        -- or the next one comes
        pub pass_on : {gone' : List Gone} {drops' : ℕ} → r.cur.no ≡ 0 → Stored r gone drops gone' drops' → Passing s h count t (i + 1) r.state gone' drops' r.cur held'
        pass_on {gone'} {drops'} z stored = record {
          within = omega arith;
          sized = turn.sized;
          blocks = turn.few;
          unknown = omega (arith, turn.next, x.unknown);
          clean = z;
          list = x.list ++ drops_of r;
          long = (stands stored).0;
          few = (stands stored).1;
          holds = (stands stored).2;
          known = turned.then;
          holding = turned.holding;
          same = goes_on ∙ ap (prepend x.list) (unless-clean r.cur _ z) ∙ rw append_assoc;
        }
          where
            stands : Stored r gone drops gone' drops' → (drops' ≡ length (x.list ++ drops_of r)) × (drops' ≤ i + 1) × (gone' ≡ filled (x.list ++ drops_of r))
            stands (inl (one, e, g, n)) =
                rw e (
                  simp length-append (omega (arith, n, x.long)),
                  omega (arith, n, x.few),
                  g ∙ rw x.holds (filled_next most_elements no_gone x.list one drops (sym x.long) (omega (arith, x.few, asked.counts.small))),
                )
            stands (inr (e, g, n)) = rw (none-left r.gone e, append-nil x.list) (n ∙ x.long, omega (arith, n, x.few), g ∙ x.holds)

    -- none is left
    pass-ends : i ≡ count.v → all s h count ≡ record { gone = x.list; last = ok (state_of x.known st.unknown) cur.at.0 }
    unfolding sift
    pass-ends e = let d : count.v - i ≡ 0 = omega arith in (rw d at x.same) ∙ rw (append-nil x.list)

  -- ---- what is answered

  abbrev sieved : Sieve
  sieved = record {
    header = record { programme = h.value.programme; alternate = h.value.alternate };
    head = h.cur.at.0;
    count = count.v;
    body = count.at.0;
    sifting = all s h count;
  }

  -- the header and the element count have been read
  sifted-by : sifted s ≡ sifted_by sieved sieved.sifting.last
  unfolding sifted sieve
  sifted-by =
      let counts = rw asked.whole at asked.counts.reads in
      rw (le-leb (length s) most_bytes asked.headed.short, ran asked.headed.head.reads (begun counts asked.clean), ran counts asked.clean)

  -- a refusal ended the pass
  pub refused_there : {r pl m : ℕ} → (all s h count).last ≡ no r pl m → Err (refusal_of r pl m) ≡ sifted s
  refused_there e = sym (sifted-by ∙ ap (sifted_by sieved) e)

  -- all elements have been looked at
  pub sifted_there : {t : List ℕ} {st : State} {gone : List Gone} {drops : ℕ} {cur : Cur} {held : Buffers} {i : ℕ} → Passing s h count t i st gone drops cur held → i ≡ count.v
      → Ok (record { head = h.cur.at; count = count.v; body = count.at; drops = drops; gone = gone }) ≡ sifted s
  sifted_there x e = rw (x.long, x.holds) (sym (sifted-by ∙ rw (pass-ends x e)))

-- ---- refused before the elements

pub too_long : (s : List ℕ) → most_bytes < length s → Err (unsifted (number_of TooLong) (length s) 0) ≡ sifted s
unfolding sifted
too_long s h = rw (lt-leb (length s) most_bytes h)

pub uncounted : {s : List ℕ} {l : Limit} {h : Step Header} {n : ℕ} {count : Cur} → Headed s h → l ≡ whole_of s → Reads oa_element_count (bit s) h.cur l n count
    → (count.no ≡ 0 → ⊥) → Err (refusal_of count.no count.at.0 count.missing) ≡ sifted s
unfolding sifted sieve run
uncounted {s} {count = count} opened el r z =
    let both = bind {k = λ h. oa_element_count} opened.head.reads (rw el at r) in
    rw (le-leb (length s) most_bytes opened.short) (sym (ap sifted_from
    (go (λ to. run oa_element_count (bit s) to (8 * length s) past_payload) _ (run header (bit s) 0 (8 * length s) past_payload) (sym (rw (ne_eqb count.no 0 z) at both.same)))))
  where
    go : {A B C : Type 0} (p : ℕ → Res B) (k : A → ℕ → B → ℕ → Res C) {r pl m : ℕ} (x : Res A) → and_then x (λ a to. p to) ≡ no r pl m
        → and_then x (λ a to. and_then (p to) (k a to)) ≡ no r pl m
    go p k (ok a to) h = rw h
    go p k (no r pl m) h = cc
