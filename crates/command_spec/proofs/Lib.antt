pub mod Cutting
pub mod Walls
pub mod Sent
pub mod Blocks
pub mod NamedNaming
pub mod Sending
pub mod Screens
pub mod Showing
pub mod Labels
pub mod NamedExample
pub mod ShownExample
pub mod Carrying
pub mod Examples
pub mod Lively
pub mod Recordings
pub mod Rows
pub mod Splits
pub mod Views
mod TranscriptExamples
pub mod Ssrcs
pub mod Reached
pub mod Stored
pub mod SentBack
pub mod Fitting
pub mod Coming
pub mod PrintedNames
pub mod Headlines
pub mod OneBridge
mod MixExamples
mod RealTerminals
pub mod Outputs
mod GeneratedExamples
pub mod Generating
pub mod FrameExamples
pub mod HeaderTypes
pub mod ShownAsRead
pub mod SameFiles
pub mod Naming
mod AttendExamples
pub mod GroupSizes
pub mod SplitSizes
pub mod TrunkSizes
pub mod Regrouped
pub mod BehindMixers
pub mod CascadedHeadlines
pub mod CascadeOutputs
mod CascadeExamples
pub mod AttendedHeadlines
pub mod Plain
