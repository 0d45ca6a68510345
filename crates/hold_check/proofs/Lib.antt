mod MarkLaws
mod TestLaws
mod RiseLaws
mod PartLaws
mod StoreLaws
mod HoldLaws
mod SteadyLaws
