pub mod PastEvents
