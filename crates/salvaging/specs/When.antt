-- A salvage is accepted, or refused for one of four reasons: each case of `salvaging`, with what it promises.
use Rattle.std.specs.Prelude.{◌≡◌, refl, List, ◌⊎◌, ℕ, ◌*◌, ◌≤◌, ◌<◌, length}
use Rattle.std.proofs.Common.{sym, ap, ◌∙◌, subst, subst₂, inl, inr, arith, le-leb}
use Rattle.std.proofs.lemmas.Bool.{lt-leb}
use Rattle.bits.specs.declared.Refusal.TheVariants.{TooLong, EndsEarly}
use Rattle.bits.specs.Refusals.{number_of}
use Rattle.bits.specs.Language.{Res, ok, no, run, and_then, bit, past_payload}
use Rattle.bits.specs.Steps.{no_ok, by_order, value, next, place, and_then_ok, bind_is, bind_stops}
use Rattle.bits.specs.Reached.{here}
use Rattle.bits.specs.ReachedLaws.{halts}
use Rattle.oamd.specs.Tables.{most_bytes}
use Rattle.oamd.specs.Element.{State}
use Rattle.oamd.specs.Payload.{header, oa_element_count, object_audio_metadata_payload}
use Rattle.oamd.specs.Sift.{Sifting, Sieve, sieve}
use Rattle.demands.specs.Lemmas.Plain.{header-plain, many-plain}
use Rattle.demands.specs.Lemmas.Passing.{Unmarked, field_in}
use Rattle.demands.specs.Lemmas.Stopping.{Limited, limited}
use Rattle.salvaging.specs.Salvage.{Salvaged, roomed, remaining, not_salvaged, finished, concluded, salvaging}
use Rattle.salvaging.specs.Promises.{Sieved, gone_of, Salvages, Unheaded, RefusedWhen, Tells, too_long, unheaded, ends-later, no_room}
use Rattle.salvaging.specs.AsAsked.{as-asked}
use Rattle.salvaging.specs.Remains.{fewer, remains}
use Rattle.salvaging.specs.Lemmas.Order.{opened, few}
use Rattle.salvaging.specs.Lemmas.Places.{Told, past, coded, own, told, by-sift}

-- ---- what stands before the elements

-- a refused step, or a refusal behind it
then-refused : {A B X : Type 0} (x : Res A) (k : A → ℕ → Res B) {r pl m : ℕ} → and_then x k ≡ no r pl m → (x ≡ no r pl m → X)
    → ((a : A) (to : ℕ) → x ≡ ok a to → k a to ≡ no r pl m → X) → X
then-refused (ok a to) k h f g = g a to refl h
then-refused (no r pl m) k h f g = f (cc)

-- the header is refused with 2 to 5, the element count with 2
header-numbers : (s : List ℕ) {r pl m : ℕ} → run header (bit s) 0 (8 * length s) past_payload ≡ no r pl m → (r ≡ 2) ⊎ ((r ≡ 3) ⊎ ((r ≡ 4) ⊎ (r ≡ 5)))
header-numbers s {r} {pl} {m} h =
    go (told (bit s) 0 (8 * length s) past_payload (header-plain Limited (λ r. (r ≡ 3) ⊎ (r ≡ 4)) limited (inl refl) (inr refl)) h (omega arith))
  where
    go : Told (λ r. (r ≡ 3) ⊎ (r ≡ 4)) 0 (8 * length s) past_payload r pl → (r ≡ 2) ⊎ ((r ≡ 3) ⊎ ((r ≡ 4) ⊎ (r ≡ 5)))
    go (past i l g) = inl i
    go (coded i l g) = inr (inr (inr i))
    go (own (inl i)) = inr (inl i)
    go (own (inr i)) = inr (inr (inl i))

count-number : (s : List ℕ) (at : ℕ) {r pl m : ℕ} → run oa_element_count (bit s) at (8 * length s) past_payload ≡ no r pl m → r ≡ 2
count-number s at h = (field_in here (halts (bit s) at (8 * length s) past_payload (many-plain Unmarked (λ r. ⊥)) h)).over

pub unheaded_of : (s : List ℕ) {r pl m : ℕ} → sieve (bit s) (8 * length s) ≡ no r pl m → Unheaded s r pl m
unfolding sieve object_audio_metadata_payload
unheaded_of s h =
    let b = bit s in
    let e : ℕ = 8 * length s in
    then-refused (run header b 0 e past_payload) _ h
    (λ x. record { sieved = h; read = bind_stops _ _ b 0 e past_payload x; numbers = header-numbers s x; reserved = λ i. x })
    λ hd p1 h1 k1.
    then-refused (run oa_element_count b p1 e past_payload) _ k1
    (λ x. record {
      sieved = h;
      read = bind_is _ _ b 0 e past_payload h1 ∙ bind_stops _ _ b p1 e past_payload x;
      numbers = inl (count-number s p1 x);
      reserved = λ i. absurd (omega (arith, count-number s p1 x));
    })
    λ n p2 h2 k2.
    absurd (no_ok (sym k2))

-- the elements begin where the count ends
pub sieved_of : (s : List ℕ) {x : Sieve} {to : ℕ} → sieve (bit s) (8 * length s) ≡ ok x to → Sieved s x
unfolding sieve
sieved_of s {x} h =
    let (hd, p1, h1, k1) = and_then_ok (run header (bit s) 0 (8 * length s) past_payload) _ h in
    let (n, p2, h2, k2) = and_then_ok (run oa_element_count (bit s) p1 (8 * length s) past_payload) _ k1 in
    h ∙ ap (ok x) (sym (next k2) ∙ ap (λ (y : Sieve). y.body) (value k2))

-- ---- the elements

-- if a refusal ends a pass, it is that of ending early
abbrev StopsEarly : Sifting → Type 0
StopsEarly y = (r pl m : ℕ) → y.last ≡ no r pl m → r ≡ number_of EndsEarly

pub later : (s : List ℕ) (x : Sieve) → Sieved s x → StopsEarly x.sifting
later s x h =
    subst StopsEarly (sym (opened s x h).sifted)
    (by-sift x.header.programme x.header.alternate (bit s) (8 * length s) StopsEarly (λ st at r pl m z. absurd (no_ok (sym z)))
    (λ r pl m i r' pl' m' z. (place z).0 ∙ i) (λ st at to r pl m f y refused whole rest. rest) x.count _ x.body)

-- ---- the cases

short_is : (s out : List ℕ) {y : Res Sieve} → length s ≤ most_bytes → sieve (bit s) (8 * length s) ≡ y → salvaging s out ≡ concluded s out y
unfolding salvaging
short_is s out l h = rw (le-leb (length s) most_bytes l, h)

long_is : (s out : List ℕ) → most_bytes < length s → salvaging s out ≡ not_salvaged out (number_of TooLong) (length s) 0
unfolding salvaging
long_is s out l = rw (lt-leb (length s) most_bytes l)

-- all elements are passed: the room is looked at
passed_when : (s out : List ℕ) (x : Sieve) (st : State) (to : ℕ) → length s ≤ most_bytes → Sieved s x → x.sifting.last ≡ ok st to
    → salvaging s out ≡ roomed out (gone_of x) (remaining s x) → Salvages s out ⊎ RefusedWhen s out
unfolding roomed
passed_when s out x st to short h l is =
    by_order (length (remaining s x)) (length out)
    (λ room. inl (record {
      short = short;
      sieve = x;
      remains = remains s x h st to l short;
      room = room;
      few = few s x h;
      most = (opened s x h).most;
      fewer = fewer s x h;
      answers = is ∙ rw (le-leb (length (remaining s x)) (length out) room);
    }))
    (λ want. inr (no_room short x (remains s x h st to l short) want (is ∙ rw (lt-leb (length (remaining s x)) (length out) want))))

pub when : (s out : List ℕ) → Salvages s out ⊎ RefusedWhen s out
when s out = by_order (length s) most_bytes (λ l. go l (sieve (bit s) (8 * length s)) refl) (λ l. inr (too_long l (long_is s out l)))
  where
    on : length s ≤ most_bytes → (x : Sieve) → Sieved s x → salvaging s out ≡ finished s out x x.sifting.last → (y : Res State) → x.sifting.last ≡ y
        → Salvages s out ⊎ RefusedWhen s out
    on short x h is (ok st to) l = passed_when s out x st to short h l (is ∙ ap (finished s out x) l)
    on short x h is (no r pl m) l =
        let asked = as-asked s x h in
        inr (ends-later short r pl m (record { sieve = x; sieved = h; last = l; read = asked.refused r pl m l; early = later s x h r pl m l })
        (is ∙ ap (finished s out x) l))

    go : length s ≤ most_bytes → (y : Res Sieve) → sieve (bit s) (8 * length s) ≡ y → Salvages s out ⊎ RefusedWhen s out
    go short (ok x to) h = on short x (sieved_of s h) (short_is s out short h) x.sifting.last refl
    go short (no r pl m) h = inr (unheaded short r pl m (unheaded_of s h) (short_is s out short h))

-- ---- the number that is answered

-- what is answered of a refusal
answered : (s out : List ℕ) {r pl m : ℕ} → salvaging s out ≡ not_salvaged out r pl m → ((salvaging s out).answer.refusal ≡ r) × ((salvaging s out).answer.place ≡ pl)
answered s out h = (ap (λ (o : Salvaged). o.answer.refusal) h, ap (λ (o : Salvaged). o.answer.place) h)

pub tells : (s out : List ℕ) → Tells s out (salvaging s out).answer.refusal (salvaging s out).answer.place
tells s out = go (when s out)
  where
    header-tells : (r pl m : ℕ) → Unheaded s r pl m → Tells s out r pl
    header-tells r pl m u = record {
      accepted = λ z. absurd (low u.numbers (omega arith));
      long = λ z. absurd (low u.numbers (omega arith));
      early = λ z. (m, inl u);
      headed = λ f g. (m, u);
      roomless = λ z. absurd (high u.numbers z);
    }
      where
        low : (r ≡ 2) ⊎ ((r ≡ 3) ⊎ ((r ≡ 4) ⊎ (r ≡ 5))) → r ≤ 1 → ⊥
        low (inl i) z = omega arith
        low (inr (inl i)) z = omega arith
        low (inr (inr (inl i))) z = omega arith
        low (inr (inr (inr i))) z = omega arith

        high : (r ≡ 2) ⊎ ((r ≡ 3) ⊎ ((r ≡ 4) ⊎ (r ≡ 5))) → 6 ≤ r → ⊥
        high (inl i) z = omega arith
        high (inr (inl i)) z = omega arith
        high (inr (inr (inl i))) z = omega arith
        high (inr (inr (inr i))) z = omega arith

    refused-tells : RefusedWhen s out → Tells s out (salvaging s out).answer.refusal (salvaging s out).answer.place
    refused-tells (too_long l h) =
        let a = answered s out h in
        record {
          accepted = λ z. absurd (omega (arith, a.0));
          long = λ z. (l, a.1);
          early = λ z. absurd (omega (arith, a.0));
          headed = λ f g. absurd (omega (arith, a.0));
          roomless = λ z. absurd (omega (arith, a.0));
        }
    refused-tells (unheaded l r pl m u h) =
        let a = answered s out h in
        subst₂ (λ (n p : ℕ). Tells s out n p) (sym a.0) (sym a.1) (header-tells r pl m u)
    refused-tells (ends-later l r pl m x h) =
        let a = answered s out h in
        let early_is = x.early in
        subst₂ (λ (n p : ℕ). Tells s out n p) (sym a.0) (sym a.1) (record {
          accepted = λ z. absurd (omega (arith, early_is));
          long = λ z. absurd (omega (arith, early_is));
          early = λ z. (m, inr x);
          headed = λ f g. absurd (omega (arith, early_is));
          roomless = λ z. absurd (omega (arith, early_is));
        })
    refused-tells (no_room l x y want h) =
        let a = answered s out h in
        record {
          accepted = λ z. absurd (omega (arith, a.0));
          long = λ z. absurd (omega (arith, a.0));
          early = λ z. absurd (omega (arith, a.0));
          headed = λ f g. absurd (omega (arith, a.0));
          roomless = λ z. (a.0, (x, y, want, a.1));
        }

    go : Salvages s out ⊎ RefusedWhen s out → Tells s out (salvaging s out).answer.refusal (salvaging s out).answer.place
    go (inl x) =
        let zero_is = ap (λ (o : Salvaged). o.answer.refusal) x.answers in
        record {
          accepted = λ z. x;
          long = λ z. absurd (omega (arith, zero_is));
          early = λ z. absurd (omega (arith, zero_is));
          headed = λ f g. absurd (omega (arith, zero_is));
          roomless = λ z. absurd (omega (arith, zero_is));
        }
    go (inr x) = refused-tells x
