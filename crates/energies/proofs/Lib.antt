mod PairLaws
mod TopLaws
