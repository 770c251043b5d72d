-- What the theorems rest on: costs compared on their first places; and, for a card, that this is harmonic comparison of the ways' profiles.
pub mod FirstPlaces
pub mod Ways
