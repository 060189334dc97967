pub mod Rules
pub mod Stops
pub mod Ahead
pub mod Tracks
pub mod Searches
pub mod Streams
pub mod Lending
pub mod Bounded
pub use Rules.{rules_of}
pub use Stops.{is_stop}
pub use Ahead.{IsAhead, is_mark, AreSeen}
pub use Tracks.{IsCountOf, EndsIn, IsPlace, Steps, NeverComment, EndsAtNewline, IsTrackOf, Leads, LeadsTo, most_counted, TracksOn, Region, Head, Plain}
pub use Tracks.{Quoted, Place, Track, ToNewline, Blanks, Line}
pub use Searches.{IsKnown, IsHeldAt, FindsCut, SearchesOn, CutsOrTracks}
pub use Streams.{Held, HoldsThen, TakesPiece, GivesCut, GivesCutText, GivesFront, GivesLast, GivesLastText}
pub use Bounded.{HeldWithin, IsTooLong, CutsTo, Counts, HoldsBy, IsKept, Holds, kept, most_given, KeepsRules, TellsOf, GivesWithin}
pub use Bounded.{IsLongFirst, FindsWithin, TakesLong, IsLongLast, FindsLast, GivesLastWithin, TellsSoFar}
