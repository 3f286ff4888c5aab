-- What a pass over the elements of a payload keeps: their bits, which are no more than there were, and their bodies.
use Rattle.std.specs.Prelude.{◌≡◌, refl, Bool, true, false, List, [], ◌∷◌, ◌++◌, ℕ, zero, suc, ◌+◌, ◌-◌, ◌*◌, ◌≤◌, ◌<◌, ltb, length}
use Rattle.std.proofs.Common.{sym, ap, ap₂, ◌∙◌, subst, append_assoc, arith, length-append, lt-ltb, le-ltb}
use Rattle.bits.specs.Language.{ok, pick, Bits, slice, P, run, bit, past_payload, past_declared}
use Rattle.bits.specs.Steps.{no_ok, next, and_then_ok, ok_at, by_order, bind_is, give_is, length-slice}
use Rattle.bits.specs.Laws.{local}
use Rattle.bits.specs.Writes.{Binary, to_bits}
use Rattle.bits.specs.Lists.{binary-append, binary-slice, length-to_bits}
use Rattle.bits.specs.Bytes.{bit_lt}
use Rattle.bits.specs.Spells.{taken-join, spelled}
use Rattle.bits.specs.Terms.{taken}
use Rattle.bits.specs.declared.Size.{Size}
use Rattle.oamd.specs.declared.Gone.{Gone}
use Rattle.oamd.specs.declared.Kind.{Kind}
use Rattle.oamd.specs.declared.Programme.{Programme}
use Rattle.oamd.specs.Element.{framed, frame, State, oa_element_md}
use Rattle.oamd.specs.Payload.{oa_element_count}
use Rattle.oamd.specs.Sift.{Sifting, gone_at, sift, Sieve}
use Rattle.demands.specs.Skeleton.{Body, body, bodies}
use Rattle.demands.specs.Assembly.{Element, all_bits, all_bodies, count_bits}
use Rattle.demands.specs.Lemmas.Frame.{body_at, end_at, frame-of}
use Rattle.demands.proofs.Lemmas.Skeletons.{body_is}
use Rattle.demands.specs.Lemmas.Assembled.{count-writes, count-spells, piece}
use Rattle.salvaging.specs.Salvage.{without, left}
use Rattle.salvaging.specs.Promises.{Sieved, gone_of, InOrder, none, one, Kept, end, stays, goes}
use Rattle.salvaging.specs.Lemmas.Turns.{sift_next}
use Rattle.salvaging.specs.Lemmas.Order.{sift_orderly, Opened, opened}

-- ---- the bits of the elements that are left

without-binary : (b : Bits) → ((i : ℕ) → b i < 2) → (at : ℕ) (gs : List Gone) (e : ℕ) → Binary (without b at gs e)
unfolding without
without-binary b bin at [] e = binary-slice b at (e - at) bin
without-binary b bin at (g ∷ gs) e =
    binary-append (slice b at (g.from.0 - at)) (without b g.to.0 gs e) (binary-slice b at (g.from.0 - at) bin) (without-binary b bin g.to.0 gs e)

-- what stands before all that is dropped stays
pub without_from : (b : Bits) {at to e : ℕ} {gs : List Gone} → at ≤ to → InOrder to gs e → taken b at to ++ without b to gs e ≡ without b at gs e
unfolding without
without_from b {at} {to} {e} l (none m) = taken-join b at to e l m
without_from b {at} {to} {e} l (one g gs m n x) =
    sym (append_assoc (taken b at to) (taken b to g.from.0) (without b g.to.0 gs e))
    ∙ ap (λ (k : List ℕ). k ++ without b g.to.0 gs e) (taken-join b at to g.from.0 l m)

-- they are no more than there were
pub without_fewer : (b : Bits) {at e : ℕ} {gs : List Gone} → InOrder at gs e → at + length (without b at gs e) ≤ e
unfolding without
without_fewer b {at} {e} (none m) = omega (arith, length-slice b at (e - at))
without_fewer b {at} {e} (one g gs m n x) =
    omega (
      arith,
      length-append (slice b at (g.from.0 - at)) (without b g.to.0 gs e),
      length-slice b at (g.from.0 - at),
      without_fewer b x,
    )

-- ---- the bits of the payload that is left

pub count-length : (n : ℕ) → length (count_bits n) ≡ pick (ltb n 15) 4 9
unfolding count_bits
count-length n = go (ltb n 15)
  where
    go : (t : Bool) → length (pick t (to_bits 4 n) (to_bits 4 15 ++ to_bits 5 (n - 15))) ≡ pick t 4 9
    go true = length-to_bits 4 n
    go false = omega (arith, length-append (to_bits 4 15) (to_bits 5 (n - 15)), length-to_bits 4 15, length-to_bits 5 (n - 15))

-- a smaller count takes no more bits
count-fewer : (m n : ℕ) → m ≤ n → length (count_bits m) ≤ length (count_bits n)
count-fewer m n l = rw (count-length m, count-length n) (by_order 15 m
    (λ h. rw (le-ltb m 15 h, le-ltb n 15 (omega arith)) (omega arith))
    (λ h. rw (lt-ltb m 15 h) (go (ltb n 15))))
  where
    go : (t : Bool) → 4 ≤ pick t 4 9
    go true = omega arith
    go false = omega arith

-- the element count's own bits
count_bits_lem : (s : List ℕ) (x : Sieve) → Opened s x → taken (bit s) x.head x.body ≡ count_bits x.count
count_bits_lem s x o = (spelled oa_element_count _ count-spells (bit s) (bit_lt s) x.head (8 * length s) past_payload o.headed o.count-read).0

pub left-binary : (s : List ℕ) (x : Sieve) → Sieved s x → (gs : List Gone) → Binary (left (bit s) (8 * length s) x gs)
unfolding left
left-binary s x h gs =
    let o = opened s x h in
    let n : ℕ = x.count - length gs in
    let rest : List ℕ = without (bit s) x.body gs (8 * length s) in
    binary-append (slice (bit s) 0 x.head) (count_bits n ++ rest) (binary-slice (bit s) 0 x.head (bit_lt s))
    (binary-append (count_bits n) rest (count-writes n (omega (arith, o.most))).binary (without-binary (bit s) (bit_lt s) x.body gs (8 * length s)))

pub left-fewer : (s : List ℕ) (x : Sieve) → Sieved s x → (gs : List Gone) → InOrder x.body gs (8 * length s)
    → length (left (bit s) (8 * length s) x gs) ≤ 8 * length s
unfolding left
left-fewer s x h gs order =
    let b = bit s in
    let o = opened s x h in
    let n : ℕ = x.count - length gs in
    let rest : List ℕ = without b x.body gs (8 * length s) in
    omega (
      arith,
      length-append (slice b 0 x.head) (count_bits n ++ rest),
      length-append (count_bits n) rest,
      length-slice b 0 x.head,
      count-fewer n x.count (omega arith),
      ap length (count_bits_lem s x o),
      length-slice b x.head (x.body - x.head),
      without_fewer b order,
      o.further,
    )

-- where nothing is dropped all is left
pub left-whole : (s : List ℕ) (x : Sieve) → Sieved s x → left (bit s) (8 * length s) x [] ≡ slice (bit s) 0 (8 * length s)
unfolding left without
left-whole s x h =
    let b = bit s in
    let e : ℕ = 8 * length s in
    let o = opened s x h in
    let none_out : x.count - 0 ≡ x.count = omega arith in
    let from-0 : x.head ≡ x.head - 0 = omega arith in
    let whole : e - 0 ≡ e = omega arith in
    ap₂ (λ (u v : List ℕ). u ++ v) (ap (slice b 0) from-0)
    (ap (λ (l : List ℕ). l ++ taken b x.body e) (ap count_bits none_out ∙ sym (count_bits_lem s x o)) ∙ taken-join b x.head x.body e o.further o.bodied)
    ∙ taken-join b 0 x.head e (omega arith) o.headed ∙ ap (slice b 0) whole

-- ---- all of them

-- Of n elements from at on, which end at to, those at gs are dropped: the bodies of all, those that are kept, and their bits.
pub record Passes (alternate n : ℕ) (b : Bits) (at e : ℕ) (gs : List Gone) (to : ℕ) : Type 0 where
  pub all : List Body
  pub ran : run (bodies alternate n) b at e past_payload ≡ ok all to
  pub kept : List (Element alternate)
  pub left : Kept alternate b e at all gs (all_bodies kept)
  pub many : length kept + length gs ≡ n
  pub bits : without b at gs e ≡ all_bits kept ++ taken b to e

-- whatever is read of an element, it has a body
body_of : {A : Type 0} (alternate : ℕ) (f : Kind → Size → P A) (b : Bits) (at e o : ℕ) {v : A} {to : ℕ} → run (framed alternate f) b at e o ≡ ok v to
    → (x : Body) × (run (body alternate) b at e o ≡ ok x to)
body_of alternate f b at e o h =
    let y = frame-of alternate f b at e o h in
    let t = and_then_ok (run (f y.kind y.size) b (body_at at alternate y.size) (end_at at y.size) past_declared) (λ a mid. ok a (end_at at y.size))
    (sym (y.same f) ∙ h) in
    (_, ok_at (body_is alternate b at e o y) (sym (next t.3)))

keeps_one : {alternate n : ℕ} (b : Bits) {at mid e to : ℕ} {gs : List Gone} {x : Body} → ((i : ℕ) → b i < 2) → at ≤ e → run (body alternate) b at e past_payload ≡ ok x mid
    → InOrder mid gs e → Passes alternate n b mid e gs to → Passes alternate (suc n) b at e gs to
unfolding bodies
keeps_one {alternate} b {at} {mid} {e} {to} {gs} {x} bin le h order y = record {
  all = x ∷ y.all;
  ran = bind_is _ _ b at e past_payload h ∙ bind_is _ _ b mid e past_payload y.ran ∙ give_is _ b to e past_payload;
  kept = record { bits = taken b at mid; binary = binary-slice b at (mid - at) bin; is = x; whole = piece (body alternate) b at e past_payload h le } ∷ y.kept;
  left = stays x h y.left;
  many = omega (arith, y.many);
  bits = sym (without_from b (omega (arith, (local (body alternate) b at e past_payload h le).ends)) order) ∙ ap (λ (l : List ℕ). taken b at mid ++ l) y.bits
      ∙ sym (append_assoc (taken b at mid) (all_bits y.kept) (taken b to e));
}

drops_one : {alternate n : ℕ} (b : Bits) {at mid e to : ℕ} {gs : List Gone} {x : Body} (r pl : ℕ) → run (body alternate) b at e past_payload ≡ ok x mid
    → Passes alternate n b mid e gs to → Passes alternate (suc n) b at e (gone_at b at mid r pl ∷ gs) to
unfolding bodies without slice
drops_one b {at} {mid} {e} {to} {gs} {x} r pl h y =
    let none_before : at - at ≡ 0 = omega arith in
    record {
      all = x ∷ y.all;
      ran = bind_is _ _ b at e past_payload h ∙ bind_is _ _ b mid e past_payload y.ran ∙ give_is _ b to e past_payload;
      kept = y.kept;
      left = goes x (gone_at b at mid r pl) h refl refl y.left;
      many = omega (arith, y.many);
      bits = rw none_before y.bits;
    }

-- a pass that comes to the end of the elements
sift-passes : (p : Programme) (alternate n : ℕ) (st : State) (b : Bits) (at e : ℕ) → ((i : ℕ) → b i < 2) → at ≤ e → (st' : State) (to : ℕ)
    → (sift p alternate n st b at e).last ≡ ok st' to → Passes alternate n b at e (sift p alternate n st b at e).gone to
unfolding sift bodies oa_element_md without
sift-passes p alternate zero st b at e bin le st' to = λ h. record {
  all = [];
  ran = ok_at (give_is [] b at e past_payload) (sym (next h));
  kept = [];
  left = end;
  many = omega arith;
  bits = ap (λ (k : ℕ). taken b k e) (next h);
}
sift-passes p alternate (suc n) st b at e bin le st' to =
    sift_next p alternate n st b at e (λ y. y.last ≡ ok st' to → Passes alternate (suc n) b at e y.gone to)
    (λ st'' mid k h.
    let fits = (local (oa_element_md p alternate st) b at e past_payload k le).fits in
    let x = body_of alternate _ b at e past_payload k in
    keeps_one b bin le x.1 (sift_orderly p alternate n st'' b mid e fits).order (sift-passes p alternate n st'' b mid e bin fits st' to h))
    (λ r pl m k i h. absurd (no_ok h))
    (λ r pl m f mid k w h.
    let fits = (local (frame alternate) b at e past_payload w le).fits in
    let x = body_of alternate _ b at e past_payload w in
    drops_one b r pl x.1 (sift-passes p alternate n st b mid e bin fits st' to h))

pub passes : (s : List ℕ) (x : Sieve) → Sieved s x → (st : State) (to : ℕ) → x.sifting.last ≡ ok st to
    → Passes x.header.alternate x.count (bit s) x.body (8 * length s) (gone_of x) to
passes s x h st to =
    let o = opened s x h in
    let e : ℕ = 8 * length s in
    subst (λ (y : Sifting). y.last ≡ ok st to → Passes x.header.alternate x.count (bit s) x.body e y.gone to) (sym o.sifted)
    (sift-passes x.header.programme x.header.alternate x.count _ (bit s) x.body e (bit_lt s) o.bodied st to)
