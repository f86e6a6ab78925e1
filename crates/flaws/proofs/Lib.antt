pub mod FlawLaws
