pub mod Asked
pub mod Unfollowed
pub mod Texts
pub mod Fronts
pub mod Senders
mod Parts
pub mod Tallies
mod FollowExamples
mod TallyExamples
mod ServeTexts
pub mod HeardLive
mod Sharing
mod Back
mod Composing
pub mod LinkLegs
pub mod LinksStay
pub mod Promised
mod LiveExamples
pub mod Watching
pub mod Totals
mod Later
mod Turns
mod TwoHops
pub mod ServeSenders
mod Examples
pub mod Heads
pub mod Reading
pub mod Growing
pub mod Heard
pub mod RecordFronts
