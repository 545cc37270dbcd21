mod HashNumbers
pub mod Ascending
mod ClassSplit
mod RankedNodes
mod AloneNodes
mod OnTheWay
mod ResultOrder
mod IssuingEach
mod AloneSoFar
mod LoggingResults
mod StartTraces
mod OneClass
mod Prepared
mod Answering
pub mod TwoOutputs
