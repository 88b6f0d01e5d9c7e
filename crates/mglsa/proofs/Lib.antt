pub mod MglsaLaws
mod StandingLaws
mod PairLaws
