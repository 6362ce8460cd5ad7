pub mod Lists
pub mod FuelLaws
pub mod GrowthLaws
pub mod RecordLaws
pub mod Unique
pub mod GrowthAnswers
pub mod GrowthSteps
