-- The dialects of line protocol.

-- the sets of rules: `Crate` has the rules of the Rust crate; `Strict` differs in comments and in the comma after the first field;
-- `NewlineDelimited` has the strict rules, and each newline ends a line
pub data Dialect : Type 0 where
  Crate Strict NewlineDelimited : Dialect
