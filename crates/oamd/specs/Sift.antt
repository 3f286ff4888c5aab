-- Which elements salvage drops (document 02, item 12): one pass over the payload as it came. An element that is read is kept, with what it adds; one that is refused is
-- dropped, what has been read stays as it was before it, and the pass goes on behind its declared end. An element that passes the payload's end ends the pass: where a next one
-- would begin is not known.
use Rattle.std.specs.Prelude.{List, [], ◌∷◌, ℕ, zero, suc, eqb}
use Rattle.bits.specs.Language.{Res, ok, no, pick, Bits, slice, run, and_then, number, past_payload}
use Rattle.oamd.specs.declared.Frame.{Frame}
use Rattle.oamd.specs.declared.Gone.{Gone}
use Rattle.oamd.specs.declared.Programme.{Programme}
use Rattle.oamd.specs.Element.{nothing, State, frame, oa_element_md}
use Rattle.oamd.specs.Payload.{oa_element_count, Header, header}

-- what a pass comes to: the elements that are dropped, in their order; and what the kept ones give, or the refusal that ends it
pub record Sifting : Type 0 where
  pub gone : List Gone
  pub last : Res State

abbrev pub passed : State → ℕ → Sifting
passed st at = record { gone = []; last = ok st at }

abbrev pub stopped : ℕ → ℕ → ℕ → Sifting
stopped r pl m = record { gone = []; last = no r pl m }

-- one element more is dropped, before the others
abbrev pub dropping : Gone → Sifting → Sifting
dropping g x = record { gone = g ∷ x.gone; last = x.last }

-- an element that is read, that passes the payload's end, or that is refused for anything else
abbrev pub judged : Res State → (State → ℕ → Sifting) → (ℕ → ℕ → Sifting) → Sifting
judged (ok st to) keep drop = keep st to
judged (no r pl m) keep drop = pick (eqb r past_payload) (stopped r pl m) (drop r pl)

-- go on behind a frame
abbrev pub behind : Res Frame → (ℕ → Sifting) → Sifting
behind (ok f to) k = k to
behind (no r pl m) k = stopped r pl m

-- the element from one bit up to before another, refused with r at pl; its id is its first four bits
abbrev pub gone_at : Bits → ℕ → ℕ → ℕ → ℕ → Gone
gone_at b at to r pl = record { from = record { 0 = at }; to = record { 0 = to }; place = record { 0 = pl }; id = number (slice b at 4); refusal = r }

-- n elements from the bit at on, behind which st has been read
unfoldable pub sift : Programme → ℕ → ℕ → State → Bits → ℕ → ℕ → Sifting
sift p alternate zero st b at e = passed st at
sift p alternate (suc n) st b at e =
    judged (run (oa_element_md p alternate st) b at e past_payload)
    (λ st' to. sift p alternate n st' b to e)
    (λ r pl. behind (run (frame alternate) b at e past_payload) (λ to. dropping (gone_at b at to r pl) (sift p alternate n st b to e)))

-- what salvage looks at in a payload: the header, the first bit of the element count, the count, the first bit of the elements, and what of them is dropped
pub record Sieve : Type 0 where
  pub header : Header
  pub head : ℕ
  pub count : ℕ
  pub body : ℕ
  pub sifting : Sifting

-- refused where the header or the element count is
unfoldable pub sieve : Bits → ℕ → Res Sieve
sieve b e =
    and_then (run header b 0 e past_payload) λ h head.
    and_then (run oa_element_count b head e past_payload) λ n body.
    ok (record {
      header = h;
      head = head;
      count = n;
      body = body;
      sifting = sift h.programme h.alternate n (record { known = nothing; unknown = 0 }) b body e;
    }) body
