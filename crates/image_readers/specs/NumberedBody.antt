-- A line without its place in an image: its number and its body (document 01, "Text lines": "A line is link, number (both low byte
-- first), body, 00"). A text says this much of a line, and a listing shows it.
-- Assumes nothing.
use Rattle.std.specs.Prelude.{ℕ, List}

pub record NumberedBody : Type 0 where
  pub number : ℕ
  pub body : List ℕ
