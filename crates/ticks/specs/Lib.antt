-- What a reader must believe of ticks, in the order of document 01.
pub mod Reading
pub mod Levels
pub mod Tick
pub mod Rest
pub mod Brief
pub mod Examples
pub mod Sizes
pub mod RestExamples
pub mod TallyExamples
-- Another view of a rule above, or what only proofs use: laws say that they agree.
pub mod Words
pub mod Settled
-- What is said of ticks on any card, and of lists of them.
pub mod Exact
pub mod Runs
pub mod Counting
pub mod Timing
pub mod TimingExamples
