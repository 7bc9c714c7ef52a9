-- A fact that a proof has to name: `(the T (search)).field` is the field of the place T, found by its type and not by counting places.
-- Assumes nothing.
abbrev pub the : (A : Type 0) → A → A
the A a = a
