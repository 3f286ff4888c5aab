-- A store may be cut into segments: an entry that lies within one comes to the same in the segment alone and in the whole store. So a long file can be catalogued segment by segment.
use Rattle.std.specs.Prelude.{◌≡◌, ℕ, ◌+◌, ◌≤◌, take, drop}
use Rattle.std.proofs.Math.Path.{refl, ap₂}
use Rattle.std.proofs.Common.{sym, ap, ◌∙◌, arith, length-append, length-drop}
use mathlib.Core.List.{List, [], ◌∷◌, ◌++◌, map}
use Rattle.std.proofs.Math.ListN.{length, length-map}
use Rattle.std.proofs.lemmas.List.{take-append-le, drop-append-le}
use Rattle.std.proofs.Math.Seq.{drop-append-add}
use Rattle.oamd.specs.Tables.{room_bytes, most_trim}
use Rattle.oamd.specs.Answer.{reading}
use Rattle.demands.proofs.Lemmas.Shelves.{inside_is}
use Rattle.catalogue.specs.Sheets.{Sheet, zeros, sheet_of, sheet_at, sheets_of}
use Rattle.catalogue.specs.Answer.{cataloguing}

-- each entry lies within a store of so many bytes
abbrev pub Inside : ℕ → List ℕ → List ℕ → Type 0
Inside n [] lengths = Unit {0}
Inside n (start ∷ starts) [] = Unit {0}
Inside n (start ∷ starts) (len ∷ lengths) = (start + len ≤ n) × Inside n starts lengths

-- starts in a store, counted from so many bytes before it
abbrev pub moved : ℕ → List ℕ → List ℕ
moved n starts = map (λ start. n + start) starts

module _ (front s behind : List ℕ) where
  abbrev whole : List ℕ
  whole = front ++ (s ++ behind)

  payload_same : (start len : ℕ) → start + len ≤ length s → take len (drop (length front + start) whole) ≡ take len (drop start s)
  payload_same start len l =
      ap (take len) (drop-append-add front (s ++ behind) start ∙ drop-append-le start s behind (omega arith))
      ∙ take-append-le len (drop start s) behind (omega (arith, length-drop start s))

  sheet-moved : (start len frame : ℕ) → start + len ≤ length s → sheet_at whole (length front + start) len frame ≡ sheet_at s start len frame
  sheet-moved start len frame l =
      let long = length-append front (s ++ behind) in
      let long_rest = length-append s behind in
      ap (sheet_of frame)
      (inside_is frame whole (length front + start) len (zeros room_bytes) (zeros most_trim) (omega arith)
      ∙ ap (λ (payload : List ℕ). reading frame payload (zeros room_bytes) (zeros most_trim)) (payload_same start len l)
      ∙ sym (inside_is frame s start len (zeros room_bytes) (zeros most_trim) l))

  -- the sheets of a segment, in the whole store
  pub sheets-moved : (starts lengths frames : List ℕ) → Inside (length s) starts lengths → sheets_of whole (moved (length front) starts) lengths frames ≡ sheets_of s starts lengths frames
  unfolding sheets_of
  sheets-moved [] lengths frames h = refl
  sheets-moved (start ∷ starts) [] frames h = refl
  sheets-moved (start ∷ starts) (len ∷ lengths) [] h = refl
  sheets-moved (start ∷ starts) (len ∷ lengths) (frame ∷ frames) h =
      ap₂ (λ (x : Sheet) (xs : List Sheet). x ∷ xs) (sheet-moved start len frame h.0) (sheets-moved starts lengths frames h.1)

  -- So a call on the segment is a call on the whole store, with the segment's entries where they lie in it; and the pieces of Pieces.antt may each have a store of their own.
  pub segment-call : (starts lengths frames before text : List ℕ) → Inside (length s) starts lengths
      → cataloguing whole (moved (length front) starts) lengths frames before text ≡ cataloguing s starts lengths frames before text
  unfolding cataloguing
  segment-call starts lengths frames before text h =
      rw (sheets-moved starts lengths frames h, length-map starts (λ start. length front + start)) refl
