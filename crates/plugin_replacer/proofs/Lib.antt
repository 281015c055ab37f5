mod EditLemmas
mod CourseLemmas
mod StepLemmas
