-- The place behind a part of a text.
use Rattle.std.specs.Prelude.{ℕ, ◌+◌, List, [], ◌∷◌, nat_eq, if◌then◌else◌}
use Rattle.msc_base.specs.declared.place.Place.{Place}

abbrev pub first_place : Place
first_place = record { byte = 0; line = 1; column = 1 }

abbrev pub after_byte : Place → ℕ → Place
after_byte p b = record {
  byte = p.byte + 1;
  line = (if nat_eq b 10 then p.line + 1 else p.line);
  column = (if nat_eq b 10 then 1 else p.column + 1);
}

abbrev pub past : Place → List ℕ → Place
past p [] = p
past p (b ∷ bs) = past (after_byte p b) bs
