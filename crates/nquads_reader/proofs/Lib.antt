mod LineEnds
mod TerminalFacts
mod WhiteSpace
mod LineTerms
mod Numbering
mod ManyQuads
mod Room
mod ValidQuad
mod ReadLines
mod Used
pub mod OneReading
pub mod Causes
mod Cuts
mod Pieces
mod Splits
mod Begun
mod Finishing
mod WrittenTerminals
mod WrittenQuads
mod WrittenTerms
mod WrittenLines
pub mod CanonicalLines
mod WrittenLabels
mod NumberedNames
mod ReadLabels
mod ReadStatements
mod RoundTrip
