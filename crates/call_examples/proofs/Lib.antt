pub mod ValidCalls
