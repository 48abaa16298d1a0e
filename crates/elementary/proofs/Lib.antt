pub mod StepsRange
pub mod ExpRange
pub mod WholeDifference
pub mod SplitExact
pub mod LnRange
