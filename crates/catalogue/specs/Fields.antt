-- The fields of a record, byte 0 first: the name of each in a catalogue, and the values that it can have.
use Rattle.std.specs.Prelude.{List, [], ◌∷◌, ℕ, get_or}
use Rattle.keys.specs.Names.{ascii}

pub record Field : Type 0 where
  pub key : List ℕ
  pub least : ℕ
  pub most : ℕ

abbrev pub field : List ℕ → ℕ → ℕ → Field
field key least most = record { key = key; least = least; most = most }

unfoldable pub fields : List Field
fields =
    field (ascii "active=") 0 1
    ∷ field (ascii "class=") 0 2
    ∷ field (ascii "gain=") 0 65
    ∷ field (ascii "priority=") 0 32
    ∷ field (ascii "x=") 0 62
    ∷ field (ascii "y=") 0 62
    ∷ field (ascii "z=") 49 79
    ∷ field (ascii "distance=") 0 17
    ∷ field (ascii "width=") 0 31
    ∷ field (ascii "depth=") 0 31
    ∷ field (ascii "height=") 0 31
    ∷ field (ascii "zone=") 0 5
    ∷ field (ascii "elevation=") 0 1
    ∷ field (ascii "screen=") 0 1
    ∷ field (ascii "screen_factor=") 0 7
    ∷ field (ascii "screen_depth=") 0 3
    ∷ field (ascii "snap=") 0 1
    ∷ field (ascii "divergence=") 0 1
    ∷ field (ascii "divergence_mode=") 0 2
    ∷ field (ascii "divergence_value=") 0 63
    ∷ field (ascii "precise=") 0 7
    ∷ field (ascii "precise_x=") 0 3
    ∷ field (ascii "precise_y=") 0 3
    ∷ field (ascii "precise_z=") 0 3
    ∷ []

-- the field of byte k
unfoldable pub field_of : ℕ → Field
field_of k = get_or fields k (field [] 0 0)

-- the other numbers of a catalogue: what the number of a frame can be, and of accepted frames the start and the ramp of an update
abbrev pub most_frame : ℕ
most_frame = 4294967295

abbrev pub most_start : ℕ
most_start = 2047

abbrev pub most_ramp : ℕ
most_ramp = 2048
