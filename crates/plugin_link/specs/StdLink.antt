-- How a link over a reader and a writer counts.
pub use Rattle.outside.specs.Source.{failures_after as faults_after_pull}
pub use Rattle.outside.specs.Sink.{failures_after as faults_after_push}
